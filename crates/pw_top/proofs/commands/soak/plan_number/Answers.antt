-- The script, the ports and the waves are those of the number.
use Rattle.std.proofs.Common.{◌≡◌, List, subst}
use Rattle.std.specs.Prelude.{Result}
use Rattle.wav_files.specs.declared.wav.WavIn.{WavIn}
use Rattle.graph_script.specs.declared.script.Script.{Script}
use Rattle.port_model.specs.declared.port_state.Node.{Node}
use Rattle.pw_top.specs.declared.planned.Planned.{Planned}
use Rattle.run_results.specs.declared.status.Status.{Status}
use Rattle.pw_top.specs.working.Ending.{Ends}
use Rattle.pw_top.specs.PlannedWork.{PlansPorts}
use Rattle.pw_top.proofs.commands.soak.plan_number.Goals as goal

same_parts : (s t : Script) (ps qs : List Node) (ws vs : List WavIn) (r : Result Planned Status) → s ≡ t → ps ≡ qs → ws ≡ vs
    → Ends (PlansPorts s ps ws) r → Ends (PlansPorts t qs vs) r
same_parts s t ps qs ws vs r script ports waves p =
    subst (λ (x : Script). Ends (PlansPorts x qs vs) r) script
    (subst (λ (x : List Node). Ends (PlansPorts s x vs) r) ports
    (subst (λ (x : List WavIn). Ends (PlansPorts s ps x) r) waves p))

pub returns-in-Ok-clause-done : goal.returns-in-Ok-clause-done
returns-in-Ok-clause-done c = same_parts _ _ _ _ _ _ c.plan_ports.result c.in-Ok.ensures.script c.in-Ok.ensures.ports c.in-Ok.ensures.waves
    c.plan_ports.ensures.done
