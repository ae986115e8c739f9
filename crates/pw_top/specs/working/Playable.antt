-- What follows of what is planned: the plan can be run, what its sinks keep be stored, and what
-- both sides of its refused links admit be found.
-- Source: PipeWire's documentation, "Graph Scheduling"; scripts are this project's.
use Rattle.std.specs.Prelude.{All}
use Rattle.pw_graph.specs.SoundPlan.{IsSoundPlan}
use Rattle.graph_script.specs.Kinds.{HasKinds}
use Rattle.graph_script.specs.Ranges.{HasRanges}
use Rattle.graph_plan.specs.Conditions.{AreScriptPorts, HaveWaves}
use Rattle.graph_plan.specs.Joining.{JoinsKinds}
use Rattle.cycle_model.specs.WavesFit.{WavesFit}
use Rattle.pw_top.specs.declared.planned.Planned.{Planned}
use Rattle.pw_top.specs.SinkStores.{AllPlaced}

pub record IsPlayable (p : Planned) : Type 0 where
  pub sound : IsSoundPlan p.plan
  pub fit : WavesFit p.plan p.waves
  pub joins : All (JoinsKinds p.plan) p.plan.lines
  pub placed : AllPlaced p.script.lines p.plan p.waves
  -- of the script, and of the ports as they were before its first line
  pub ranges : HasRanges p.script
  pub kinds : HasKinds p.script
  pub ports : AreScriptPorts p.script.lines p.ports
  pub waves : HaveWaves p.ports p.waves
