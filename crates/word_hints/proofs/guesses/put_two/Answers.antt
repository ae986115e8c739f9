use Rattle.word_hints.proofs.Grown.{grown_3}
use Rattle.word_hints.proofs.guesses.put_two.Goals as goal

pub returns : goal.returns
returns c = grown_3 _ _ _ _ _ _ _ c.in_ok-put_named.ensures c.in_ok-put_or.ensures c.in_ok-extend.ensures.ok
