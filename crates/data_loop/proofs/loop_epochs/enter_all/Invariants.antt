use Rattle.std.proofs.Common.{◌≡◌, ℕ, suc, ◌<◌, ◌≤◌, length, get_or}
use Rattle.node_state.specs.declared.node_state.NodeState.{NodeState}
use Rattle.node_progress.specs.NodeStates.{IsNodeState}
use Rattle.node_progress.specs.Restarts.{next_first}
use Rattle.data_loop.proofs.loop_epochs.enter_all.Given as goal

abbrev pub invariant-loop-j : goal.invariant-loop-j
invariant-loop-j l = record {
  count : length l.states ≡ length l.nodes;
  entered : (j : ℕ) (d : NodeState) → j < l.j
      → IsNodeState l.run_model (suc l.epoch) (next_first l.run_model.plan.value l.epoch) (get_or l.nodes j 0) (get_or l.states j d);
  left : (j : ℕ) (d : NodeState) → l.j ≤ j → get_or l.states j d ≡ get_or l.fn.states j d;
}
