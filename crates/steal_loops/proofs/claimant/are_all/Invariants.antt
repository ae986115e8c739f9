use Rattle.std.proofs.Common.{◌≡◌, ℕ, ◌<◌, Bool, true, length, get_or}
use Rattle.steal_loops.proofs.claimant.are_all.Given as goal

abbrev pub invariant-loop-cell : goal.invariant-loop-cell
invariant-loop-cell l = record {
  end : l.cell-end ≡ length l.ended;
  up : (i : ℕ) (d : Bool) → i < l.cell → get_or l.ended i d ≡ true;
}
