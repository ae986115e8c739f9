-- Ranges and Steps as they are read.
use Rattle.std.proofs.Common.{◌≡◌, ℕ, ℤ, pos, ◌<◌, ◌<ℤ◌, ◌≤ℤ◌, ◌⊎◌, inl, inr, List, [], ◌∷◌, length, refl, sym, ap}
use Rattle.std.proofs.Common.{◌∙◌, subst, arith}
use Rattle.std.proofs.lemmas.Int.{ints}
use Rattle.pod_codec.specs.declared.pod.Pod.{Pod}
use Rattle.pod_codec.specs.declared.pod.ChoiceKind.TheVariants as k
use Rattle.format_filter.specs.declared.choice.Choice.{Choice}
use Rattle.format_filter.specs.declared.choice.Choice.TheVariants.{Only, Enum, Range, Step}
use Rattle.format_filter.specs.declared.choice.Wide.{Wide}
use Rattle.format_filter.specs.declared.choice.Wide.TheVariants.{Int, Long}
use Rattle.format_filter.specs.declared.fault.FormatFault.TheVariants as f
use Rattle.format_filter.specs.Members.{number_of, IsReached, IsMember}
use Rattle.format_filter.specs.Soundness.{FitsWide, IsSound}
use Rattle.format_filter.specs.ChoiceReading.{IsNumber, Prefers, ReadsRange, ReadsStep, ReadsValues, FaultsValues}
use Rattle.format_filter.proofs.OverlapLemmas.{number_injective}

pub wide_same : (w w' : Wide) (n n' : ℤ) → number_of w n ≡ number_of w' n' → w ≡ w'
wide_same Int Int n n' e = refl
wide_same Long Long n n' e = refl
wide_same Int Long n n' e = absurd (cc)
wide_same Long Int n n' e = absurd (cc)

-- a number of a value that is known as another of its type
pub same_number : (w w' : Wide) (n n' : ℤ) (v : Pod) → w ≡ w' → v ≡ number_of w n → v ≡ number_of w' n' → n ≡ n'
same_number w w' n n' v e a b = number_injective w n n' (sym a ∙ b ∙ ap (λ (x : Wide). number_of x n') (sym e))

module _ (wish low high : Pod) where
  pub range_needs_number : ((w : Wide) → IsNumber w wish → ⊥) → (c : Choice) → ReadsRange wish low high c → ⊥
  range_needs_number none (Range wide pick min max) h = none wide h.0
  range_needs_number none (Only v) h = h
  range_needs_number none (Enum pick alts) h = h
  range_needs_number none (Step wide pick min max step) h = h

  pub range_needs_order : (wide : Wide) (n min max : ℤ) → wish ≡ number_of wide n → low ≡ number_of wide min → high ≡ number_of wide max
      → max <ℤ min → (c : Choice) → ReadsRange wish low high c → ⊥
  range_needs_order wide n min max a b d l (Range w p least greatest) h =
      let same = wide_same w wide h.0.0 n (sym h.0.1 ∙ a) in
      let lows : least ≡ min = same_number w wide least min low same h.1 b in
      let highs : greatest ≡ max = same_number w wide greatest max high same h.2 d in
      omega (arith, ints, h.3)
  range_needs_order wide n min max a b d l (Only v) h = h
  range_needs_order wide n min max a b d l (Enum pick alts) h = h
  range_needs_order wide n min max a b d l (Step w pick least greatest step) h = h

  pub range_is_read : (wide : Wide) (n min max pick : ℤ) → wish ≡ number_of wide n → low ≡ number_of wide min → high ≡ number_of wide max
      → FitsWide wide n → FitsWide wide min → FitsWide wide max → min ≤ℤ max
      → (((min ≤ℤ n) × (n ≤ℤ max)) × (pick ≡ n)) ⊎ (((min ≤ℤ n) × (n ≤ℤ max) → ⊥) × (pick ≡ min))
      → ReadsRange wish low high (Range wide pick min max) × IsSound (Range wide pick min max)
  range_is_read wide n min max pick a b d fn fmin fmax order kept =
      let prefers : Prefers wish (Range wide pick min max) = elim kept [
        | inl w ↦ inl ((n, a, w.0.0, w.0.1), ap (number_of wide) w.1 ∙ sym a)
        | inr w ↦ inr (
          λ m. let same = number_injective wide m.0 n (sym m.1 ∙ a) in
              w.0 (subst (λ (x : ℤ). min ≤ℤ x) same m.2, subst (λ (x : ℤ). x ≤ℤ max) same m.3),
          ap (number_of wide) w.1,
        )
      ] in
      let member : IsMember (Range wide pick min max) (number_of wide pick) = elim kept [
        | inl w ↦ (n, ap (number_of wide) w.1, w.0.0, w.0.1)
        | inr w ↦ (min, ap (number_of wide) w.1, omega (arith, ints), order)
      ] in
      let fits : FitsWide wide pick = elim kept [
        | inl w ↦ subst (FitsWide wide) (sym w.1) fn
        | inr w ↦ subst (FitsWide wide)
            (sym w.1) fmin
      ] in
      (((n, a), b, d, order, prefers), record { parts = (fits, fmin, fmax); pick = member })

module _ (wish low high by : Pod) where
  pub step_needs_number : ((w : Wide) → IsNumber w wish → ⊥) → (c : Choice) → ReadsStep wish low high by c → ⊥
  step_needs_number none (Step wide pick min max step) h = none wide h.0
  step_needs_number none (Only v) h = h
  step_needs_number none (Enum pick alts) h = h
  step_needs_number none (Range wide pick min max) h = h

  pub step_needs_order : (wide : Wide) (n min max : ℤ) → wish ≡ number_of wide n → low ≡ number_of wide min → high ≡ number_of wide max
      → max <ℤ min → (c : Choice) → ReadsStep wish low high by c → ⊥
  step_needs_order wide n min max a b d l (Step w p least greatest step) h =
      let same = wide_same w wide h.0.0 n (sym h.0.1 ∙ a) in
      let lows : least ≡ min = same_number w wide least min low same h.1 b in
      let highs : greatest ≡ max = same_number w wide greatest max high same h.2 d in
      omega (arith, ints, h.4)
  step_needs_order wide n min max a b d l (Only v) h = h
  step_needs_order wide n min max a b d l (Enum pick alts) h = h
  step_needs_order wide n min max a b d l (Range w pick least greatest) h = h

  pub step_needs_step : (wide : Wide) (n step : ℤ) → wish ≡ number_of wide n → by ≡ number_of wide step → step ≤ℤ pos 0 → (c : Choice)
      → ReadsStep wish low high by c → ⊥
  step_needs_step wide n step a b l (Step w p least greatest s) h =
      let same = wide_same w wide h.0.0 n (sym h.0.1 ∙ a) in
      let steps : s ≡ step = same_number w wide s step by same h.3 b in
      omega (arith, ints, h.5)
  step_needs_step wide n step a b l (Only v) h = h
  step_needs_step wide n step a b l (Enum pick alts) h = h
  step_needs_step wide n step a b l (Range w pick least greatest) h = h

  pub step_is_read : (wide : Wide) (n min max step pick : ℤ) → wish ≡ number_of wide n → low ≡ number_of wide min
      → high ≡ number_of wide max → by ≡ number_of wide step
      → FitsWide wide n → FitsWide wide min → FitsWide wide max → FitsWide wide step → min ≤ℤ max → pos 0 <ℤ step
      → ((IsReached min step n × (n ≤ℤ max)) × (pick ≡ n)) ⊎ ((IsReached min step n × (n ≤ℤ max) → ⊥) × (pick ≡ min))
      → ReadsStep wish low high by (Step wide pick min max step) × IsSound (Step wide pick min max step)
  step_is_read wide n min max step pick a b d e fn fmin fmax fstep order above kept =
      let prefers : Prefers wish (Step wide pick min max step) = elim kept [
        | inl w ↦ inl ((n, a, w.0.0, w.0.1), ap (number_of wide) w.1 ∙ sym a)
        | inr w ↦ inr (
          λ m. let same = number_injective wide m.0 n (sym m.1 ∙ a) in
              w.0 (subst (IsReached min step) same m.2, subst (λ (x : ℤ). x ≤ℤ max) same m.3),
          ap (number_of wide) w.1,
        )
      ] in
      let member : IsMember (Step wide pick min max step) (number_of wide pick) = elim kept [
        | inl w ↦ (n, ap (number_of wide) w.1, w.0.0, w.0.1)
        | inr w ↦ (min, ap (number_of wide) w.1, (0, omega (arith, ints)), order)
      ] in
      let fits : FitsWide wide pick = elim kept [
        | inl w ↦ subst (FitsWide wide) (sym w.1) fn
        | inr w ↦ subst (FitsWide wide)
            (sym w.1) fmin
      ] in
      (((n, a), b, d, e, order, above, prefers), record { parts = (fits, fmin, fmax, fstep, above); pick = member })

-- values that are no Range or Step are at fault
pub range_faults : (values : List Pod) (key : ℕ) → 0 < length values → ((c : Choice) → ReadsValues k.Range values c → ⊥)
    → FaultsValues k.Range values key (f.BadRange key)
range_faults [] key l none = absurd (omega arith)
range_faults (v ∷ rest) key l none = (refl, none)

pub step_faults : (values : List Pod) (key : ℕ) → 0 < length values → ((c : Choice) → ReadsValues k.Step values c → ⊥)
    → FaultsValues k.Step values key (f.BadStep key)
step_faults [] key l none = absurd (omega arith)
step_faults (v ∷ rest) key l none = (refl, none)
