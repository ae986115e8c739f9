-- What was loaded is planned.
use Rattle.std.proofs.Common.{◌≡◌, refl, subst, sym, inl}
use Rattle.std.specs.Prelude.{Result, Ok, Err, IfOk}
use Rattle.pw_outside.specs.Files.{names_in}
use Rattle.cycle_trace.specs.TraceReading.{AreNames}
use Rattle.graph_script.specs.declared.script.Script.{Script}
use Rattle.pw_top.specs.declared.planned.Planned.{Planned}
use Rattle.run_results.specs.declared.status.Status.{Status}
use Rattle.run_results.specs.declared.status.Status.TheVariants as S
use Rattle.pw_top.specs.PlannedWork.{PlansInputs}
use Rattle.pw_top.specs.ScriptFile.{LoadsScript}
use Rattle.pw_top.specs.ScriptFound.{end_of}
use Rattle.pw_top.proofs.AllowedLemmas.{binds_goes}
use Rattle.pw_top.proofs.CheckLemmas.{script_names}
use Rattle.pw_top.proofs.FoundLemmas.{script_later}
use Rattle.pw_top.proofs.planned.plan_file.Goals as goal

pub returns-in-Ok-clause-told : goal.returns-in-Ok-clause-told
returns-in-Ok-clause-told g c = λ h. binds_goes (LoadsScript (names_in (g.F.Files.held c.args.files.now)) c.args.script.now)
    (λ s. PlansInputs s.script s.inputs) _ c.plan_inputs.result (c.in-Ok.ensures.told h) c.plan_inputs.ensures.done

-- the names of a script that was loaded
named : (script : Script) → AreNames script.names → (r : Result Planned Status) → IfOk r (λ p. p.script ≡ script)
    → IfOk r (λ p. AreNames p.script.names)
named script names (Ok p) e = subst (λ (s : Script). AreNames s.names) (sym e) names
named script names (Err status) e = e

pub returns-in-Ok-clause-names : goal.returns-in-Ok-clause-names
returns-in-Ok-clause-names g c = let known = c.in-Ok.ensures.cause in
    named c.in-Ok.field-0.script (script_names c.in-Ok.field-0.script known.ranges known.order) c.plan_inputs.result c.plan_inputs.ensures.script

pub returns-in-Ok-clause-source : goal.returns-in-Ok-clause-source
returns-in-Ok-clause-source g c = script_later (g.F.Files.held c.args.files.now) c.args.script.now _ S.Ok (end_of c.plan_inputs.result) (inl refl)
    c.in-Ok.ensures.source
