-- Each line may be loaded, and one more of them is.
use Rattle.std.proofs.Common.{ℕ, ◌+◌, List, drop, sym, subst, refl, ◌∙◌, arith}
use Rattle.std.specs.Prelude.{Ok, Err, option_map}
use Rattle.pw_graph.specs.declared.kind.Kind.{Kind}
use Rattle.pw_outside.specs.Files.{Names, names_in}
use Rattle.graph_script.specs.declared.script.Line.{Line}
use Rattle.graph_script.specs.Kinds.{made_by}
use Rattle.graph_lines.specs.Start.{kinds_of}
use Rattle.pw_top.specs.working.Ending.{Ends}
use Rattle.pw_top.specs.Loads.{LoadsLine, LoadsAll}
use Rattle.pw_top.specs.PlanInputs.{AreInputsAfter, AreInputsOf}
use Rattle.script_inputs.proofs.LineLemmas.{IsUnderWay, next_line, past, may_make, one_more}
use Rattle.pw_top.proofs.LoadsLemmas.{stops_here, goes_here, told_before, sound_start, way_start, rest_start, inputs_of, ends_here, later_cause}
use Rattle.pw_top.proofs.script_loads.load_lines.Goals as goal

pub loop-line-init : goal.loop-line-init
loop-line-init g c = record {
  files = record { held = refl; later = omega arith; stores = refl };
  sound = sound_start c.args.nothing c.requires.nothing;
  way = way_start c.args.lines.now c.args.nothing c.requires.lines c.requires.made c.requires.nothing;
  rest = λ h r e. rest_start (names_in (g.F.Files.held c.args.files.now)) c.args.lines.now c.args.nothing r c.requires.nothing e;
}

pub load_line-requires-clause-sound : goal.load_line-requires-clause-sound
load_line-requires-clause-sound g c = c.loop-line.invariant.sound

pub load_line-requires-clause-line : goal.load_line-requires-clause-line
load_line-requires-clause-line g c =
    let lines = c.args.lines.now in
    let l = c.line-item.result in
    may_make (kinds_of lines) c.requires.few l (drop (c.loop-line.line-index + 1) lines) c.loop-line.inputs.ports
    (subst (λ (ls : List Line). IsUnderWay (kinds_of lines) ls c.loop-line.inputs.ports)
    (next_line lines c.loop-line.line-index l c.loop-line-test.true c.line-item.is) c.loop-line.invariant.way)

pub returns-in-Err-clause-files : goal.returns-in-Err-clause-files
returns-in-Err-clause-files g c =
    let a = c.loop-line.invariant.files.later in
    let b = c.in-Err.ensures.files.later in
    record {
      held = c.in-Err.ensures.files.held ∙ c.loop-line.invariant.files.held;
      later = omega (arith, a, b);
      stores = c.in-Err.ensures.files.stores ∙ c.loop-line.invariant.files.stores;
    }

pub returns-in-Err-clause-cause : goal.returns-in-Err-clause-cause
returns-in-Err-clause-cause g c = later_cause
    (AreInputsAfter c.loop-line.inputs (option_map (λ (m : ℕ × Kind). m.1) (made_by c.line-item.result.command))) (AreInputsOf c.args.lines.now)
    _ _ _ c.in-Err.status c.loop-line.invariant.files.later c.in-Err.ensures.cause

pub returns-in-Err-clause-told : goal.returns-in-Err-clause-told
returns-in-Err-clause-told g c = λ h.
    let lines = c.args.lines.now in
    let l = c.line-item.result in
    let old = g.F.Files.held c.args.files.now in
    let told = told_before (λ (n : Names). Ends (LoadsLine n l.line l.command c.loop-line.inputs) (Err c.in-Err.status)) old
    (g.F.Files.held c.loop-line.files) c.loop-line.invariant.files.held c.in-Err.ensures.told h in
    c.loop-line.invariant.rest h (Err c.in-Err.status)
    (subst (λ (ls : List Line). Ends (LoadsAll (names_in old) ls c.loop-line.inputs) (Err c.in-Err.status))
    (sym (next_line lines c.loop-line.line-index l c.loop-line-test.true c.line-item.is))
    (stops_here (names_in old) l (drop (c.loop-line.line-index + 1) lines) c.loop-line.inputs c.in-Err.status told))

pub loop-line-preserved : goal.loop-line-preserved
loop-line-preserved g c =
    let lines = c.args.lines.now in
    let l = c.line-item.result in
    let left = drop (c.loop-line.line-index + 1) lines in
    let next = next_line lines c.loop-line.line-index l c.loop-line-test.true c.line-item.is in
    let old = g.F.Files.held c.args.files.now in
    let a = c.loop-line.invariant.files.later in
    let b = c.in-Ok.ensures.files.later in
    record {
      files = record {
        held = c.in-Ok.ensures.files.held ∙ c.loop-line.invariant.files.held;
        later = omega (arith, a, b);
        stores = c.in-Ok.ensures.files.stores ∙ c.loop-line.invariant.files.stores;
      };
      sound = c.in-Ok.ensures.cause.sound;
      way = one_more (kinds_of lines) c.requires.few l left c.loop-line.inputs.ports
          (subst (λ (ls : List Line). IsUnderWay (kinds_of lines) ls c.loop-line.inputs.ports) next c.loop-line.invariant.way)
          c.in-Ok.after.ports c.in-Ok.ensures.cause.kinds;
      rest = λ h r rest.
          let told = told_before (λ (n : Names). Ends (LoadsLine n l.line l.command c.loop-line.inputs) (Ok c.in-Ok.after)) old
          (g.F.Files.held c.loop-line.files) c.loop-line.invariant.files.held c.in-Ok.ensures.told h in
          c.loop-line.invariant.rest h r
          (subst (λ (ls : List Line). Ends (LoadsAll (names_in old) ls c.loop-line.inputs) r) (sym next)
          (goes_here (names_in old) l left c.loop-line.inputs c.in-Ok.after r told rest));
    }

pub returns-clause-files : goal.returns-clause-files
returns-clause-files g c = c.loop-line.invariant.files

pub returns-clause-cause : goal.returns-clause-cause
returns-clause-cause g c = inputs_of c.args.lines.now (drop c.loop-line.line-index c.args.lines.now) c.loop-line.inputs
    c.loop-line.invariant.sound c.loop-line.invariant.way (past c.args.lines.now c.loop-line.line-index c.loop-line-test.false)

pub returns-clause-told : goal.returns-clause-told
returns-clause-told g c = λ h.
    c.loop-line.invariant.rest h (Ok c.loop-line.inputs)
    (ends_here (names_in (g.F.Files.held c.args.files.now)) (drop c.loop-line.line-index c.args.lines.now) c.loop-line.inputs
    (past c.args.lines.now c.loop-line.line-index c.loop-line-test.false))
