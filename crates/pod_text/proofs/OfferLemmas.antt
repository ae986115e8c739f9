-- Two sound fields.
use Rattle.std.proofs.Common.{ℕ, zero, suc, ◌<◌, [], ◌∷◌, get_or, arith}
use Rattle.format_filter.specs.declared.format.Field.{Field}
use Rattle.format_filter.specs.CommonFormat.{AreSoundFields}
use Rattle.format_filter.specs.Soundness.{IsSound}

ascending : (f g : Field) → f.key < g.key → (i j : ℕ) (d : Field) → i < j → j < 2
    → (get_or (f ∷ g ∷ []) i d).key < (get_or (f ∷ g ∷ []) j d).key
ascending f g h zero zero d l m = absurd (omega arith)
ascending f g h zero (suc zero) d l m = h
ascending f g h zero (suc (suc j)) d l m = absurd (omega arith)
ascending f g h (suc i) zero d l m = absurd (omega arith)
ascending f g h (suc i) (suc j) d l m = absurd (omega arith)

choices : (f g : Field) → IsSound f.choice → IsSound g.choice → (k : ℕ) (d : Field) → k < 2
    → IsSound (get_or (f ∷ g ∷ []) k d).choice
choices f g a b zero d l = a
choices f g a b (suc zero) d l = b
choices f g a b (suc (suc k)) d l = absurd (omega arith)

pub two_sound : (f g : Field) → f.key < g.key → IsSound f.choice → IsSound g.choice → AreSoundFields (f ∷ g ∷ [])
two_sound f g h a b = record {
  ascending = λ i j d l m. ascending f g h i j d l m;
  choices = λ k d l. choices f g a b k d l;
}
