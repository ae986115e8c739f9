use Rattle.std.proofs.Common.{length}
use Rattle.word_hints.proofs.nearness.+is_two_near.Given as goal

abbrev pub decreases-is_two_near : goal.decreases-is_two_near
decreases-is_two_near l = length l.a.now
