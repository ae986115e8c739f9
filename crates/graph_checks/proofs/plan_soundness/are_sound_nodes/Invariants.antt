use Rattle.std.proofs.Common.{take}
use Rattle.std.specs.Prelude.{All}
use Rattle.pw_graph.specs.SoundPlan.{IsSoundNode}
use Rattle.graph_checks.proofs.plan_soundness.are_sound_nodes.Given as goal

abbrev pub invariant-loop-node : goal.invariant-loop-node
invariant-loop-node l = All IsSoundNode (take l.node-index l.nodes)
