-- The lines may be loaded, and the script is kept with what they load.
use Rattle.std.proofs.Common.{◌≤◌, List, [], length, refl, sym, subst, arith}
use Rattle.std.specs.Prelude.{Ok, Err}
use Rattle.pw_outside.specs.Files.{names_in}
use Rattle.graph_script.specs.declared.script.Line.{Line}
use Rattle.graph_script.specs.Making.{NamesMade}
use Rattle.graph_lines.specs.Start.{kinds_of}
use Rattle.graph_plan.specs.Conditions.{AreLinesOf}
use Rattle.graph_plan.proofs.PlannedLemmas.{lines_are, named_are}
use Rattle.pw_top.specs.working.Ending.{Ends}
use Rattle.pw_top.specs.Loads.{LoadsAll}
use Rattle.pw_top.specs.ScriptFile.{KeepsInputs}
use Rattle.pw_top.specs.PlanInputs.{nothing_loaded, AreInputsOf}
use Rattle.pw_top.proofs.AllowedLemmas.{binds_goes, binds_stops, part_gives}
use Rattle.pw_top.proofs.loaded_script.load_lines_of.Goals as goal

pub load_all-requires : goal.load_all-requires
load_all-requires g c =
    let P : List Line → Type 0 = λ ls. AreLinesOf (kinds_of ls) ls in
    let named = named_are c.args.script c.requires.ranges c.requires.kinds in
    let count = c.requires.ranges.count in
    let few : length (kinds_of c.args.script.lines) ≤ 63 = omega (arith, named, count) in
    record {
      lines = subst P (sym c.as_slice.ensures) (lines_are c.args.script c.requires.ranges c.requires.kinds);
      made = subst (NamesMade 0) (sym c.as_slice.ensures) c.requires.order.made;
      few = subst (λ (ls : List Line). length (kinds_of ls) ≤ 63) (sym c.as_slice.ensures) few;
    }

pub returns-in-Ok-clause-cause : goal.returns-in-Ok-clause-cause
returns-in-Ok-clause-cause g c = record {
  ranges = c.requires.ranges;
  kinds = c.requires.kinds;
  order = c.requires.order;
  inputs = subst (λ (ls : List Line). AreInputsOf ls c.in-Ok.inputs) c.as_slice.ensures c.in-Ok.ensures.cause;
}

pub returns-in-Ok-clause-told : goal.returns-in-Ok-clause-told
returns-in-Ok-clause-told g c = λ h. let names = names_in (g.F.Files.held c.args.files.now) in
    binds_goes (LoadsAll names c.args.script.lines nothing_loaded) (KeepsInputs c.args.script) c.in-Ok.inputs _
    (subst (λ (ls : List Line). Ends (LoadsAll names ls nothing_loaded) (Ok c.in-Ok.inputs)) c.as_slice.ensures (c.in-Ok.ensures.told h))
    (part_gives [] _ _ refl)

pub returns-in-Err-clause-told : goal.returns-in-Err-clause-told
returns-in-Err-clause-told g c = λ h. let names = names_in (g.F.Files.held c.args.files.now) in
    binds_stops (LoadsAll names c.args.script.lines nothing_loaded) (KeepsInputs c.args.script) c.in-Err.status
    (subst (λ (ls : List Line). Ends (LoadsAll names ls nothing_loaded) (Err c.in-Err.status)) c.as_slice.ensures (c.in-Err.ensures.told h))
