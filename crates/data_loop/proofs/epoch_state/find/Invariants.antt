use Rattle.std.proofs.Common.{◌≢◌, ℕ, ◌<◌, get_or}
use Rattle.data_loop.specs.Tries.{no_member}
use Rattle.data_loop.proofs.epoch_state.find.Given as goal

abbrev pub invariant-loop-index : goal.invariant-loop-index
invariant-loop-index l = (j : ℕ) → j < l.index → (get_or l.members j no_member).node ≢ l.node
