use Rattle.std.proofs.Common.{length}
use Rattle.word_hints.proofs.nearness.+is_swapped.Given as goal

abbrev pub decreases-is_swapped : goal.decreases-is_swapped
decreases-is_swapped l = length l.a.now
