use Rattle.std.proofs.Common.{ℕ, ℤ, ◌<◌, length, get_or}
use Rattle.cycle_model.specs.Expected.{IsShort}
use Rattle.graph_run.proofs.boards.look_over.Given as goal

abbrev pub invariant-loop-k : goal.invariant-loop-k
invariant-loop-k l = (j : ℕ) (d : ℤ) → j < l.k → j < length l.samples → IsShort (get_or l.samples j d)
