use Rattle.std.proofs.Common.{length}
use Rattle.word_hints.proofs.nearness.+is_one_near.Given as goal

abbrev pub decreases-is_one_near : goal.decreases-is_one_near
decreases-is_one_near l = length l.a.now
