use Rattle.std.proofs.Common.{◌≡◌, map, Some}
use Rattle.steal_shelf.proofs.opening.slots_of.Given as goal

abbrev pub invariant-loop-cell : goal.invariant-loop-cell
invariant-loop-cell l = l.slots ≡ map (λ c. Some c) l.yielded
