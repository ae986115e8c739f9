-- Numbers as ways up from another number.
use Rattle.std.proofs.Common.{◌≡◌, ℕ, ℤ, pos, negsuc, suc, ◌+◌, ◌*◌, ◌-◌, ◌/◌, ◌%◌, ◌<◌, ◌+ℤ◌, ◌-ℤ◌, ◌<ℤ◌}
use Rattle.std.proofs.Common.{◌≤ℤ◌, refl, sym, ap, ◌∙◌, subst, arith, w64, to_z, of_z, FitsSigned}
use Rattle.std.specs.Prelude.{unsigned_abs}
use Rattle.std.specs.Int.{cast_unsigned}
use Rattle.std.proofs.lemmas.Int.{ints, to_z-of_z}
use Rattle.std.proofs.Math.Nat.{mul-mod_left}
use Rattle.format_filter.specs.Members.{IsReached}
use Rattle.format_filter.proofs.SolutionsLemmas.{whole_is}

-- a number above 0
pub positive : (z : ℤ) → pos 0 <ℤ z → (s : ℕ) × (z ≡ pos s) × (0 < s)
positive (pos s) h = (s, refl, omega (arith, ints))
positive (negsuc s) h = let no : pos 0 <ℤ negsuc s → ⊥ = λ k. omega (arith, ints) in absurd (no h)

-- how far it is up to a number
pub way : (low n : ℤ) → low ≤ℤ n → (d : ℕ) × (n ≡ low +ℤ pos d)
way (pos a) (pos b) h = (b - a, omega (arith, ints))
way (pos a) (negsuc b) h = let no : pos a ≤ℤ negsuc b → ⊥ = λ k. omega (arith, ints) in absurd (no h)
way (negsuc a) (pos b) h = (suc a + b, omega (arith, ints))
way (negsuc a) (negsuc b) h = (a - b, omega (arith, ints))

-- the distance that the code computes
pub distance : (low n : ℤ) (d : ℕ) → n ≡ low +ℤ pos d → unsigned_abs (n -ℤ low) ≡ d
distance low n d e =
    let way_is : n -ℤ low ≡ pos d = omega (arith, ints) in
    ap unsigned_abs way_is

pub reached_whole : (low : ℤ) (s d : ℕ) → IsReached low (pos s) (low +ℤ pos d) → d % s ≡ 0
reached_whole low s d (k, e) =
    let same : d ≡ k * s = omega (arith, ints, e) in
    ap (λ v. v % s) same ∙ mul-mod_left k s

pub whole_reached : (low : ℤ) (s d : ℕ) → d % s ≡ 0 → IsReached low (pos s) (low +ℤ pos d)
whole_reached low s d h = (d / s, ap (λ (v : ℕ). low +ℤ pos v) (sym (whole_is d s h)))

-- a number is reached where its distance is a multiple
pub reached_told : (low step n : ℤ) (d s : ℕ) → pos 0 <ℤ step → low ≤ℤ n → d ≡ unsigned_abs (n -ℤ low) → s ≡ cast_unsigned w64 step
    → (d % s ≡ 0 → IsReached low step n) × (IsReached low step n → d % s ≡ 0)
reached_told low step n d s z h e f =
    let p = positive step z in
    let up = way low n h in
    let s_is : s ≡ p.0 = f ∙ ap (cast_unsigned w64) p.1 in
    let d_is : d ≡ up.0 = e ∙ distance low n up.0 up.1 in
    let same : d % s ≡ up.0 % p.0 = ap (λ v. v % s) d_is ∙ ap (λ v. up.0 % v) s_is in (
      λ w. subst (λ (v : ℤ). IsReached low v n) (sym p.1)
          (subst (λ (v : ℤ). IsReached low (pos p.0) v) (sym up.1) (whole_reached low p.0 up.0 (sym same ∙ w))),
      λ r. same ∙ reached_whole low p.0 up.0 (subst (λ (v : ℤ). IsReached low (pos p.0) v) up.1
          (subst (λ (v : ℤ). IsReached low v n) p.1 r)),
    )

pub span_is : (low high : ℤ) (span : ℕ) → low ≤ℤ high → span ≡ unsigned_abs (high -ℤ low) → high ≡ low +ℤ pos span
span_is low high span h e =
    let up = way low high h in
    up.1 ∙ ap (λ (v : ℕ). low +ℤ pos v) (sym (e ∙ distance low high up.0 up.1))

-- the same through the code's bits
pub kept_distance : (a b : ℤ) (d : ℕ) → FitsSigned w64 a → FitsSigned w64 b
    → d ≡ unsigned_abs (to_z w64 (of_z w64 a) -ℤ to_z w64 (of_z w64 b)) → d ≡ unsigned_abs (a -ℤ b)
kept_distance a b d f g e = e ∙ ap (λ (v : ℤ). unsigned_abs (v -ℤ to_z w64 (of_z w64 b))) (to_z-of_z w64 a f)
    ∙ ap (λ (v : ℤ). unsigned_abs (a -ℤ v)) (to_z-of_z w64 b g)

pub kept_number : (a : ℤ) (s : ℕ) → FitsSigned w64 a → s ≡ cast_unsigned w64 (to_z w64 (of_z w64 a)) → s ≡ cast_unsigned w64 a
kept_number a s f e = e ∙ ap (cast_unsigned w64) (to_z-of_z w64 a f)

pub step_is : (step : ℤ) (s : ℕ) → pos 0 <ℤ step → s ≡ cast_unsigned w64 step → (step ≡ pos s) × (0 < s)
step_is step s z e =
    let p = positive step z in
    let s_is : s ≡ p.0 = e ∙ ap (cast_unsigned w64) p.1 in
    (p.1 ∙ ap pos (sym s_is), omega (arith, p.2, s_is))
