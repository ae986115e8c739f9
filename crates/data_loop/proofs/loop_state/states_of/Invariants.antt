use Rattle.std.proofs.Common.{take}
use Rattle.data_loop.specs.LoopStart.{AreFirstStates}
use Rattle.data_loop.proofs.loop_state.states_of.Given as goal

abbrev pub invariant-loop-node : goal.invariant-loop-node
invariant-loop-node l = AreFirstStates l.run_model (take l.node-index l.nodes) l.states
