use Rattle.std.proofs.Common.{◌≡◌, map, take}
use Rattle.node_progress.specs.Restarts.{restart_of}
use Rattle.data_loop.proofs.epoch_states.restarts_of.Given as goal

abbrev pub invariant-loop-node : goal.invariant-loop-node
invariant-loop-node l = l.restarts ≡ map (restart_of l.plan l.epoch) (take l.node-index l.nodes)
