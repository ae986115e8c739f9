-- The points so far with those of the controls left are all, and the faults of the controls left are all.
use Rattle.control_sequence.proofs.PointLemmas.{IsStep}
use Rattle.control_sequence.proofs.reading.points_of.Given as goal

abbrev pub invariant-loop-index : goal.invariant-loop-index
invariant-loop-index l = IsStep l.controls l.index l.items l.before
