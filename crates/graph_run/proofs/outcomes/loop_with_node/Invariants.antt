use Rattle.std.proofs.Common.{◌≡◌, ℕ, ◌<◌, length, get_or}
use Rattle.std.specs.Prelude.{Contains}
use Rattle.data_loop.specs.declared.loop_state.LoopState.{LoopState}
use Rattle.graph_run.proofs.outcomes.loop_with_node.Given as goal

abbrev pub invariant-loop-index : goal.invariant-loop-index
invariant-loop-index l = record {
  end : l.index-end ≡ length l.loops;
  none : (j : ℕ) (d : LoopState) → j < l.index → ¬ (Contains (get_or l.loops j d).nodes l.node);
}
