use Rattle.std.proofs.Common.{◌≡◌, length}
use Rattle.fault_messages.specs.Nearest.{near_among, nearest}
use Rattle.fault_messages.proofs.nearest.nearest.Given as goal

abbrev pub invariant-loop-rest : goal.invariant-loop-rest
invariant-loop-rest l = nearest l.fn.k l.fn.word ≡ near_among l.fn.k l.rest l.fn.word

abbrev pub decreases-loop-rest : goal.decreases-loop-rest
decreases-loop-rest l = length l.rest
