-- Choices of the numbers that two choices have in common.
use Rattle.std.proofs.Common.{◌≡◌, ℕ, ℤ, pos, negsuc, zero, suc, ◌*◌, ◌<◌, ◌≤◌, ◌+ℤ◌, ◌*ℤ◌, ◌<ℤ◌, ◌≤ℤ◌}
use Rattle.std.proofs.Common.{◌⊎◌, inl, inr, List, [], ◌∷◌, length, get_or, refl, sym, ap, ◌∙◌, subst, arith}
use Rattle.std.specs.List.{Contains}
use Rattle.std.proofs.lemmas.Int.{ints}
use Rattle.std.proofs.lemmas.List.Elements.{All-nil, All-cons}
use Rattle.std.proofs.Math.Nat.{mul-le-mul_right}
use Rattle.pod_codec.specs.declared.pod.Pod.{Pod}
use Rattle.pod_codec.specs.SoundChoices.{IsOfType}
use Rattle.format_filter.specs.declared.choice.Choice.{Choice}
use Rattle.format_filter.specs.declared.choice.Choice.TheVariants.{Enum, Step}
use Rattle.format_filter.specs.declared.choice.Wide.{Wide}
use Rattle.format_filter.specs.declared.choice.Wide.TheVariants.{Int, Long}
use Rattle.format_filter.specs.declared.progression.Row.{Row}
use Rattle.format_filter.specs.Members.{number_of, IsReached, IsMember}
use Rattle.format_filter.specs.Soundness.{FitsWide, AreOfOneType}
use Rattle.format_filter.specs.declared.progression.Numbers.TheVariants.{More}
use Rattle.format_filter.specs.working.Progression.{IsIn, AreOrdered}
use Rattle.format_filter.proofs.TypeLemmas.{int_type, long_type}
use Rattle.format_filter.specs.Intersection.{IsCommon, IsProgression, HasForm, IsPicked, IsCommonIn}

-- which values a pair contains
pub contains_pair : (v w x : Pod) (k : ℕ) → k < length (v ∷ w ∷ []) → get_or (v ∷ w ∷ []) k x ≡ x → (x ≡ v) ⊎ (x ≡ w)
contains_pair v w x zero l e = inl (sym e)
contains_pair v w x (suc zero) l e = inr (sym e)
contains_pair v w x (suc (suc k)) l e = absurd (omega arith)

first_of_pair : (v w x : Pod) → x ≡ v → Contains (v ∷ w ∷ []) x
first_of_pair v w x e = (0, omega arith, sym e)

second_of_pair : (v w x : Pod) → x ≡ w → Contains (v ∷ w ∷ []) x
second_of_pair v w x e = (1, omega arith, sym e)

-- numbers of a type are of one type
pair_types : (wide : Wide) (l h : ℤ) → AreOfOneType (number_of wide l ∷ number_of wide h ∷ [])
pair_types Int l h = (
  4,
  omega arith,
  All-cons (IsOfType 4) (number_of Int l) (number_of Int h ∷ []) (int_type l)
      (All-cons (IsOfType 4) (number_of Int h) [] (int_type h) (All-nil (IsOfType 4))),
)
pair_types Long l h = (
  5,
  omega arith,
  All-cons (IsOfType 5) (number_of Long l) (number_of Long h ∷ []) (long_type l)
      (All-cons (IsOfType 5) (number_of Long h) [] (long_type h) (All-nil (IsOfType 5))),
)

pub above : (min max step : ℤ) (k : ℕ) → pos 0 <ℤ step → max ≡ min +ℤ (pos k *ℤ step) → min ≤ℤ max
above min max (pos s) k z e = omega (arith, ints)
above min max (negsuc s) k z e = absurd (omega (arith, ints))

-- a row has its first number
pub row_first : (row : Row) → AreOrdered (More row) → IsIn row row.min
row_first row h = ((0, omega (arith, ints)), above row.min row.max row.step h.1.0 h.0 h.1.2)

module _ (a b : Choice) (wide : Wide) (form : (c : Choice) → IsProgression c → HasForm a b c) where
  -- two numbers are an Enum of both
  pub two_meet : (l h : ℤ) (pick : Pod) (alts : List Pod) → alts ≡ number_of wide l ∷ number_of wide h ∷ [] → l <ℤ h
      → ((n : ℤ) → (n ≡ l) ⊎ (n ≡ h) → IsCommon a b (number_of wide n) × FitsWide wide n)
      → ((x : Pod) → IsCommon a b x → (n : ℤ) × (x ≡ number_of wide n) × ((n ≡ l) ⊎ (n ≡ h)))
      → IsPicked a b (number_of wide l) pick → IsCommon a b pick ⊎ (pick ≡ number_of wide l) → IsCommonIn (HasForm a b) a b (Enum pick alts)
  two_meet l h pick alts is order only all picked member =
      let v = number_of wide l in
      let w = number_of wide h in
      let of_pair : (x : Pod) → (x ≡ v) ⊎ (x ≡ w) → IsCommon a b x = λ x e. elim e [
        | inl p ↦ subst (λ (y : Pod). IsCommon a b y) (sym p) (only l (inl refl)).0
        | inr p ↦ subst (λ (y : Pod). IsCommon a b y) (sym p) (only h (inr refl)).0
      ] in
      let in_pair : (x : Pod) → IsCommon a b x → Contains (v ∷ w ∷ []) x = λ x e. let f = all x e in elim f.2 [
        | inl p ↦ first_of_pair v w x (f.1 ∙ ap (number_of wide) p)
        | inr p ↦ second_of_pair v w x (f.1 ∙ ap (number_of wide) p)
      ] in
      subst (λ (ys : List Pod). IsCommonIn (HasForm a b) a b (Enum pick ys)) (sym is) (record {
        sound = record {
          parts = pair_types wide l h;
          pick = elim member [ inl p ↦ in_pair pick p | inr p ↦ first_of_pair v w pick p ];
        };
        only = λ x e. of_pair x (contains_pair v w x e.0 e.1 e.2);
        all = in_pair;
        form = form (Enum pick (v ∷ w ∷ [])) (wide, l, h, order, refl);
        pick = picked;
      })

  -- the greatest of a row is at least two steps above the least, so that the step fits
  step_fits : (min max step : ℤ) (k : ℕ) → FitsWide wide min → FitsWide wide max → pos 0 <ℤ step → 2 ≤ k → max ≡ min +ℤ (pos k *ℤ step)
      → FitsWide wide step
  step_fits min max step k f g z two e = steps wide min max step k f g z two e where
    doubled : (min max : ℤ) (k s : ℕ) → 2 ≤ k → max ≡ min +ℤ (pos k *ℤ pos s) → (min +ℤ pos (2 * s)) ≤ℤ max
    doubled min max k s two e = let more : 2 * s ≤ k * s = mul-le-mul_right s two in omega (arith, ints)

    steps : (wide : Wide) (min max step : ℤ) (k : ℕ) → FitsWide wide min → FitsWide wide max → pos 0 <ℤ step → 2 ≤ k
        → max ≡ min +ℤ (pos k *ℤ step) → FitsWide wide step
    steps Int min max (pos s) k f g z two e = let d = doubled min max k s two e in record { sfits = omega (arith, ints) }
    steps Long min max (pos s) k f g z two e = let d = doubled min max k s two e in record { sfits = omega (arith, ints) }
    steps w min max (negsuc s) k f g z two e = absurd (omega (arith, ints))

  -- more than two numbers are a Step
  pub more_meet : (min max step pick : ℤ) → FitsWide wide pick → pos 0 <ℤ step → ((k : ℕ) × (2 ≤ k) × (max ≡ min +ℤ (pos k *ℤ step)))
      → ((n : ℤ) → IsReached min step n × (n ≤ℤ max) → IsCommon a b (number_of wide n) × FitsWide wide n)
      → ((x : Pod) → IsCommon a b x → (n : ℤ) × (x ≡ number_of wide n) × (IsReached min step n × (n ≤ℤ max)))
      → IsPicked a b (number_of wide min) (number_of wide pick) → IsCommon a b (number_of wide pick) ⊎ (pick ≡ min)
      → IsCommonIn (HasForm a b) a b (Step wide pick min max step)
  more_meet min max step pick fits z many only all picked member =
      let first : IsReached min step min = (0, omega (arith, ints)) in
      let last : IsReached min step max = (many.0, many.2) in
      let order : min ≤ℤ max = above min max step many.0 z many.2 in
      let of_row : (x : Pod) → IsMember (Step wide pick min max step) x
      → IsCommon a b x = λ x e. subst (λ (y : Pod). IsCommon a b y) (sym e.1) (only e.0 (e.2, e.3)).0 in
      let in_row : (x : Pod) → IsCommon a b x → IsMember (Step wide pick min max step) x = λ x e. let f = all x e in
      (f.0, f.1, f.2.0, f.2.1) in
      record {
        sound = record {
          parts = (
            fits,
            (only min (first, order)).1,
            (only max (last, omega (arith, ints))).1,
            step_fits min max step many.0 (only min (first, order)).1 (only max (last, omega (arith, ints))).1 z many.1 many.2,
            z,
          );
          pick = elim member [
            | inl p ↦ in_row (number_of wide pick) p
            | inr p ↦ (min, ap (number_of wide) p, first, order)
          ];
        };
        only = of_row;
        all = in_row;
        form = form (Step wide pick min max step) many;
        pick = picked;
      }
