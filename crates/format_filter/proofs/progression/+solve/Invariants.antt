-- The modulus falls.
use Rattle.format_filter.proofs.progression.+solve.Given as goal

abbrev pub decreases-solve : goal.decreases-solve
decreases-solve l = l.other
