-- The word is that of a step.
use Rattle.std.proofs.Common.{◌≡◌, ◌++◌, OnOk, ℕ, ℤ, List, w64, to_z, of_z, subst}
use Rattle.std.proofs.lemmas.Int.{to_z-of_z}
use Rattle.std.specs.Fmt.{signed_decimal}
use Rattle.refused_links.specs.Words.{step_words}
use Rattle.refused_links.proofs.words.put_step.Goals as goal

pub returns : goal.returns
unfolding step_words
returns c =
    let said = subst (λ (word : List ℕ). OnOk c.put_after.result (c.put_after.new.text
    ≡ c.args.text.now ++ (word ++ signed_decimal (to_z w64 (of_z w64 c.args.step))))) c.as_slice.ensures c.put_after.ensures in
    subst (λ (n : ℤ). OnOk c.put_after.result (c.put_after.new.text ≡ c.args.text.now ++ step_words n))
    (to_z-of_z w64 c.args.step c.ranges.step) said
