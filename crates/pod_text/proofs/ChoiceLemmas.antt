-- Choices in words: their pieces, and that they are sound.
use Rattle.std.proofs.Common.{◌≡◌, ℕ, ◌<◌, ◌≤◌, ◌∙◌, List, [], ◌∷◌, ◌++◌, All, length, get_or, refl, sym, ap, subst, arith, pos}
use Rattle.std.specs.Prelude.{Bool, Option, Some, None, option_map, fold}
use Rattle.std.specs.List.{slice_split}
use Rattle.std.proofs.lemmas.Int.{ints}
use Rattle.std.proofs.lemmas.List.Elements.{Contains-get_or}
use Rattle.std.proofs.lemmas.List.Folds.{fold_stays}
use Rattle.std.proofs.lemmas.List.Splits.{length-slice_split}
use Rattle.pod_codec.specs.declared.pod.Pod.{Pod}
use Rattle.pod_codec.specs.SoundChoices.{IsOfType}
use Rattle.format_filter.specs.declared.choice.Choice.TheVariants.{Only, Enum, Range}
use Rattle.format_filter.specs.declared.choice.Wide.TheVariants.{Int}
use Rattle.format_filter.specs.Members.{IsMember}
use Rattle.format_filter.specs.Soundness.{IsSound}
use Rattle.pod_text.specs.ChoiceWords.{number_said, int_of, with_number, behind_max, behind_first}

-- an Int is no Choice
pub only_sound : (v : Pod) → IsOfType 4 v → IsSound (Only v)
only_sound v int = record {
  parts = λ h. absurd (omega (arith, int, h));
  pick = refl;
}

-- the first of some Ints is preferred
pub enum_sound : (v : Pod) (xs vs : List Pod) (d : Pod) → xs ≡ vs → 0 < length xs → v ≡ get_or xs 0 d → All (IsOfType 4) vs
    → IsSound (Enum v vs)
enum_sound v xs vs d same some is four =
    let there : IsMember (Enum v vs) (get_or vs 0 d) = Contains-get_or vs 0 d (omega (arith, ap length same)) in
    record {
      parts = (4, omega arith, four);
      pick = subst (IsMember (Enum v vs)) (sym (is ∙ ap (λ (ys : List Pod). get_or ys 0 d) same)) there;
    }

pub range_sound : (min max : ℕ) → min ≤ 2147483647 → max ≤ 2147483647 → min ≤ max → IsSound (Range Int (pos min) (pos min) (pos max))
range_sound min max small great le = record {
  parts = (omega (arith, ints), omega (arith, ints), omega (arith, ints));
  pick = (pos min, refl, omega (arith, ints), omega (arith, ints));
}

-- a text has a piece
pub some_pieces : (p : ℕ → Bool) (xs : List ℕ) → 0 < length (slice_split p xs)
some_pieces p xs = omega (arith, length-slice_split p xs)

-- what has a piece too many says nothing
pub none_longer : (min max : ℕ) (step : List ℕ) (ps : List (List ℕ)) → 0 < length ps → None ≡ behind_max min (Some max) (step ∷ ps)
none_longer min max step [] l = absurd (omega arith)
none_longer min max step (p ∷ ps) l = refl

pub none_dots : (min gap last : List ℕ) (ps : List (List ℕ)) → 0 < length ps → None ≡ behind_first min (gap ∷ last ∷ ps)
none_dots min gap last [] l = absurd (omega arith)
none_dots min gap last (p ∷ ps) l = refl

-- one piece more
pub bad_piece : (values : List Pod) (piece : List ℕ) (pieces more : List (List ℕ)) → pieces ≡ piece ∷ more → None ≡ number_said piece
    → fold with_number (Some values) pieces ≡ None
bad_piece values piece pieces more e h =
    ap (λ (ps : List (List ℕ)). fold with_number (Some values) ps) e
    ∙ ap (λ (o : Option ℕ). fold with_number (option_map (λ (n : ℕ). values ++ int_of n ∷ []) o) more) (sym h)
    ∙ fold_stays with_number None (λ x. refl) more

pub good_piece : (values : List Pod) (n : ℕ) (piece : List ℕ) (pieces more : List (List ℕ)) → pieces ≡ piece ∷ more
    → Some n ≡ number_said piece → fold with_number (Some values) pieces ≡ fold with_number (Some (values ++ int_of n ∷ [])) more
good_piece values n piece pieces more e h =
    ap (λ (ps : List (List ℕ)). fold with_number (Some values) ps) e
    ∙ ap (λ (o : Option ℕ). fold with_number (option_map (λ (m : ℕ). values ++ int_of m ∷ []) o) more) (sym h)
