use Rattle.data_loop.specs.Drafts.{HasFirst}
use Rattle.data_loop.proofs.loop_state.LoopState.with_pools.Given as goal

abbrev pub invariant-loop-epoch : goal.invariant-loop-epoch
invariant-loop-epoch l = HasFirst l.fn.plan l.fn.nodes l.fn.seats l.epoch l.draft
