use Rattle.std.proofs.Common.{refl}
use Rattle.pw_top.proofs.SurelyLemmas.{ends}
use Rattle.pw_top.proofs.surely.run_surely.Goals as goal

pub returns-clause-told : goal.returns-clause-told
returns-clause-told g c =
    let t = c.run_words.ensures.told refl in
    (t.0, t.1, ends t.0 _ _ _ _ _ t.2 c.run_words.ensures.cause, t.3)
