-- The plan is kept with its script and with ports as they were, and can be run.
use Rattle.std.proofs.Common.{List, [], ap, subst, sym}
use Rattle.std.specs.Prelude.{Result, Ok}
use Rattle.pw_graph.specs.declared.plan.Plan.{Plan}
use Rattle.wav_files.specs.declared.wav.WavIn.{WavIn}
use Rattle.graph_script.specs.declared.script.Script.{Script}
use Rattle.graph_plan.specs.Conditions.{AreScriptPorts, HaveWaves}
use Rattle.port_model.specs.declared.port_state.Node.{Node}
use Rattle.pw_top.specs.declared.planned.Planned.{Planned}
use Rattle.run_results.specs.declared.status.Status.{Status}
use Rattle.pw_top.specs.Allowed.{Reads}
use Rattle.pw_top.specs.PlannedWork.{PlansTo, KeepsPlan}
use Rattle.pw_top.proofs.AllowedLemmas.{binds_goes, part_gives}
use Rattle.pw_top.proofs.PlanWorkLemmas.{all_placed}
use Rattle.pw_top.proofs.planned.plan_ports.Goals as goal

abbrev kept_with : Script → List WavIn → Plan → List Node → Result Planned Status
kept_with script waves plan ports = Ok (record { script = script; ports = ports; waves = waves; plan = plan })

pub returns-clause-done : goal.returns-clause-done
returns-clause-done c = binds_goes (Reads (PlansTo c.args.script c.args.ports c.args.waves))
    (KeepsPlan c.args.script c.args.ports c.args.waves) c.in-Ok-plan.plan _
    (part_gives [] (PlansTo c.args.script c.args.ports c.args.waves) c.in-Ok-plan.plan c.in-Ok-plan.ensures.planned)
    (part_gives [] _ _ (ap (kept_with c.args.script c.args.waves c.in-Ok-plan.plan) c.in-Ok.ensures))

pub returns-clause-cause : goal.returns-clause-cause
returns-clause-cause c = record {
  sound = c.in-Ok-plan.ensures.sound;
  fit = c.in-Ok-plan.ensures.fit;
  joins = c.in-Ok-plan.ensures.joins;
  placed = all_placed c.args.script c.requires.ranges c.requires.kinds c.requires.made c.args.ports
      c.requires.ports c.args.waves c.in-Ok-plan.plan c.in-Ok-plan.ensures.planned;
  ranges = c.requires.ranges;
  kinds = c.requires.kinds;
  ports = subst (AreScriptPorts c.args.script.lines) (sym c.in-Ok.ensures) c.requires.ports;
  waves = subst (λ (ps : List Node). HaveWaves ps c.args.waves) (sym c.in-Ok.ensures) c.requires.waves;
}
