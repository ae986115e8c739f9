use Rattle.std.proofs.Common.{sym, subst}
use Rattle.std.specs.Prelude.{Contains}
use Rattle.data_loop.specs.declared.loop_state.LoopState.{LoopState}
use Rattle.graph_run.proofs.outcomes.peak_by.Goals as goal

pub greatest-requires-clause-own : goal.greatest-requires-clause-own
greatest-requires-clause-own c = let x : LoopState = c.index-loops-loop_with_node.result in
    subst (λ (s : LoopState). Contains s.nodes c.args.place) (sym c.index-loops-loop_with_node.is) (c.loop_with_node.ensures.has.1 x)
