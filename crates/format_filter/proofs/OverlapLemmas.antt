-- The intersection of two Ranges: the numbers from the larger min to the smaller max.
use Rattle.std.proofs.Common.{◌≡◌, ℤ, ◌<ℤ◌, ◌≤ℤ◌, false, ◌⊎◌, inl, inr, refl, sym, ap, ◌∙◌, subst, arith}
use lib.Signed.{lt_z}
use Rattle.std.specs.Int.{int_max, int_min}
use Rattle.std.proofs.lemmas.Int.{ints, clamps, by_lt_z}
use Rattle.pod_codec.specs.declared.pod.Pod.{Pod}
use Rattle.pod_codec.specs.SoundChoices.{IsOfType}
use Rattle.format_filter.specs.declared.choice.Choice.{Choice}
use Rattle.format_filter.specs.declared.choice.Choice.TheVariants.{Only, Range}
use Rattle.format_filter.specs.declared.choice.Wide.{Wide}
use Rattle.format_filter.specs.declared.choice.Wide.TheVariants.{Int, Long}
use Rattle.format_filter.specs.Members.{number_of, IsMember}
use Rattle.format_filter.specs.Soundness.{FitsWide}
use Rattle.format_filter.specs.Intersection.{IsCommon, IsOverlap, HasForm, IsPicked, IsCommonIn}
use Rattle.format_filter.proofs.TypeLemmas.{int_type, long_type}
use Rattle.format_filter.proofs.ValueLemmas.{one_picked}

pub number_injective : (wide : Wide) (n m : ℤ) → number_of wide n ≡ number_of wide m → n ≡ m
number_injective Int n m e = cc
number_injective Long n m e = cc

-- a number determines its type
pub type_told : (v w : Wide) (n m : ℤ) → number_of v n ≡ number_of w m → v ≡ w
type_told Int Int n m e = refl
type_told Int Long n m e = absurd (cc)
type_told Long Int n m e = absurd (cc)
type_told Long Long n m e = refl

pub strictly : (x y : ℤ) → lt_z y x ≡ false → (x ≡ y → ⊥) → x <ℤ y
strictly x y h different = by_lt_z x y (λ l. l) (λ l. absurd (different (between x y h l))) where
  between : (x y : ℤ) → lt_z y x ≡ false → y ≤ℤ x → x ≡ y
  between x y h l = grind (arith, ints)

-- the larger of two numbers fits where both do, and the smaller
pub max_fits : (wide : Wide) (x y : ℤ) → FitsWide wide x → FitsWide wide y → FitsWide wide (int_max x y)
max_fits Int x y f g = grind (arith, ints)
max_fits Long x y f g = grind (arith, ints)

pub min_fits : (wide : Wide) (x y : ℤ) → FitsWide wide x → FitsWide wide y → FitsWide wide (int_min x y)
min_fits Int x y f g = grind (arith, ints)
min_fits Long x y f g = grind (arith, ints)

-- a number is no Choice
pub number_plain : (wide : Wide) (n : ℤ) → IsOfType 19 (number_of wide n) → ⊥
number_plain Int n e = let four = int_type n in omega (arith, e, four)
number_plain Long n e = let five = long_type n in omega (arith, e, five)

module _ (a b : Choice) (wide : Wide) (p min max q low high : ℤ) (a_is : a ≡ Range wide p min max) (b_is : b ≡ Range wide q low high) where
  common_is : (x : Pod) → IsCommon a b x → (n : ℤ) × (x ≡ number_of wide n) × (int_max min low ≤ℤ n) × (n ≤ℤ int_min max high)
  common_is x w =
      let one = subst (λ (c : Choice). IsMember c x) a_is w.0 in
      let other = subst (λ (c : Choice). IsMember c x) b_is w.1 in
      let same : one.0 ≡ other.0 = number_injective wide one.0 other.0 (sym one.1 ∙ other.1) in
      let other_low : low ≤ℤ one.0 = subst (λ (v : ℤ). low ≤ℤ v) (sym same) other.2 in
      let other_high : one.0 ≤ℤ high = subst (λ (v : ℤ). v ≤ℤ high) (sym same) other.3 in
      let own_low : min ≤ℤ one.0 = one.2 in
      let own_high : one.0 ≤ℤ max = one.3 in
      (one.0, one.1, omega (arith, ints, clamps), omega (arith, ints, clamps))

  is_common : (x : Pod) (n : ℤ) → x ≡ number_of wide n → int_max min low ≤ℤ n → n ≤ℤ int_min max high → IsCommon a b x
  is_common x n e l h = (
    subst (λ (c : Choice). IsMember c x) (sym a_is) (n, e, omega (arith, ints, clamps), omega (arith, ints, clamps)),
    subst (λ (c : Choice). IsMember c x) (sym b_is) (n, e, omega (arith, ints, clamps), omega (arith, ints, clamps)),
  )

  has_form : (c : Choice) → IsOverlap (int_max min low) (int_min max high) wide c → HasForm a b c
  has_form c w = subst (λ (d : Choice). HasForm d b c) (sym a_is) (subst (λ (d : Choice). HasForm (Range wide p min max) d c) (sym b_is) w)

  pub overlap_none : int_min max high <ℤ int_max min low → (x : Pod) → IsCommon a b x → ⊥
  overlap_none apart x w = let f = common_is x w in omega (arith, ints, f.2, f.3)

  pub overlap_one : (n : ℤ) → n ≡ int_max min low → n ≡ int_min max high → (v : Pod) → v ≡ number_of wide n
      → IsCommonIn (HasForm a b) a b (Only v)
  overlap_one n l h v e =
      let value = number_of wide n in
      let only : (x : Pod) → IsCommon a b x → x ≡ value = λ x w.
      let f = common_is x w in
      let same : f.0 ≡ n = omega (arith, ints, f.2, f.3) in
      f.1 ∙ ap (number_of wide) same in
      let own : IsCommon a b value = is_common value n refl (omega (arith, ints)) (omega (arith, ints)) in
      subst (λ (u : Pod). IsCommonIn (HasForm a b) a b (Only u)) (sym e) (record {
        sound = record { parts = number_plain wide n; pick = refl };
        only = λ x w. subst (λ (y : Pod). IsCommon a b y) (sym w) own;
        all = only;
        form = has_form (Only value) (sym l ∙ h, ap (number_of wide) l);
        pick = one_picked a b value only;
      })

  pub overlap_more : (pick least greatest : ℤ) → least ≡ int_max min low → greatest ≡ int_min max high → least <ℤ greatest
      → FitsWide wide pick → FitsWide wide least → FitsWide wide greatest
      → IsPicked a b (number_of wide least) (number_of wide pick) → IsCommon a b (number_of wide pick) ⊎ (pick ≡ least)
      → IsCommonIn (HasForm a b) a b (Range wide pick least greatest)
  overlap_more pick least greatest l h order f g k picked member =
      let in_range : (x : Pod) → IsCommon a b x → IsMember (Range wide pick least greatest) x = λ x w.
      let is = common_is x w in (is.0, is.1, omega (arith, ints, is.2), omega (arith, ints, is.3)) in
      record {
        sound = record {
          parts = (f, g, k);
          pick = elim member [
            | inl w ↦ in_range (number_of wide pick) w
            | inr e ↦ (least, ap (number_of wide) e, omega (arith, ints), omega (arith, ints))
          ];
        };
        only = λ x w. is_common x w.0 w.1 (omega (arith, ints, w.2)) (omega (arith, ints, w.3));
        all = in_range;
        form = has_form (Range wide pick least greatest)
            (subst (λ (v : ℤ). int_max min low <ℤ v) h (subst (λ (v : ℤ). v <ℤ greatest) l order), refl, l, h);
        pick = picked;
      }
