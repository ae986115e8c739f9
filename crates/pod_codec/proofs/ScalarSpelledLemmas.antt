-- What is written of a value with a size of its own spells it.
use Rattle.std.proofs.Common.{◌≡◌, ℕ, ℤ, ◌+◌, ◌<◌, ◌^◌, true, false, List, ◌++◌, length, refl, sym, ap, ◌∙◌, arith}
use Rattle.std.proofs.Common.{length-append}
use Rattle.std.specs.Int.{w32, w64, cast_signed, cast_unsigned}
use Rattle.std.specs.Prelude.{FitsSigned}
use Rattle.std.proofs.lemmas.Int.{to_z-of_z}
use Rattle.std.proofs.Math.Facts.{Fits-of_z}
use Rattle.pod_codec.specs.declared.pod.Pod.{Pod}
use Rattle.pod_codec.specs.declared.pod.Prop.{Prop}
use Rattle.pod_codec.specs.declared.pod.Control.{Control}
use Rattle.pod_codec.specs.declared.pod.Pod.TheOpen.{Pod-F}
use Rattle.pod_codec.specs.PodType.{child_size}
use Rattle.pod_codec.specs.Framing.{u32_bytes, u64_bytes}
use Rattle.pod_codec.specs.Numbers.{ScalarFits}
use Rattle.pod_codec.specs.Places.{u32_at, u64_at, IsScalarAt}
use Rattle.pod_codec.proofs.FormLemmas.{form_at}
use Rattle.pod_codec.proofs.PlaceLemmas.{StandsAt, stands_left, stands_right, u32_stands, u64_stands}
use Rattle.pod_codec.proofs.WritingLemmas.{u32_length}

pub u64_length : (n : ℕ) → length (u64_bytes n) ≡ 8
unfolding u64_bytes
u64_length n = refl

signed_four : (bytes : List ℕ) (p : ℕ) (z : ℤ) → FitsSigned w32 z → StandsAt bytes p (u32_bytes (cast_unsigned w32 z))
    → z ≡ cast_signed w32 (u32_at bytes p)
signed_four bytes p z fits s = sym (ap (cast_signed w32) (u32_stands bytes p (cast_unsigned w32 z) (Fits-of_z fits).fits s)
    ∙ to_z-of_z w32 z fits)

signed_eight : (bytes : List ℕ) (p : ℕ) (z : ℤ) → FitsSigned w64 z → StandsAt bytes p (u64_bytes (cast_unsigned w64 z))
    → z ≡ cast_signed w64 (u64_at bytes p)
signed_eight bytes p z fits s = sym (ap (cast_signed w64) (u64_stands bytes p (cast_unsigned w64 z) (Fits-of_z fits).fits s)
    ∙ to_z-of_z w64 z fits)

-- two numbers, one after the other
pub pair_stands : (bytes : List ℕ) (p m n : ℕ) → m < 2 ^ 32 → n < 2 ^ 32 → StandsAt bytes p (u32_bytes m ++ u32_bytes n)
    → (m ≡ u32_at bytes p) × (n ≡ u32_at bytes (p + 4))
pair_stands bytes p m n l k s = (
  sym (u32_stands bytes p m l (stands_left bytes p (u32_bytes m) (u32_bytes n) s)),
  sym (u32_stands bytes (p + 4) n k (stands_right bytes p (p + 4) (u32_bytes m) (u32_bytes n) (omega (arith, u32_length m)) s)),
)

pub pair_length : (m n : ℕ) → length (u32_bytes m ++ u32_bytes n) ≡ 8
pair_length m n = omega (arith, length-append (u32_bytes m) (u32_bytes n), u32_length m, u32_length n)

-- the body of a value of a child type that is allowed
pub scalar_spells : (bytes : List ℕ) (t q : ℕ) (v : Pod-F Pod Control Prop) → (form_at v).number ≡ t → 0 < child_size t → ScalarFits v
    → StandsAt bytes q (form_at v).body → IsScalarAt bytes t q v × (length (form_at v).body ≡ child_size t)
scalar_spells bytes t q (Pod-F.Bool true) n some fits s = rw (← n) ((refl, rw (u32_stands bytes q 1 (omega arith) s) refl), u32_length 1)
scalar_spells bytes t q (Pod-F.Bool false) n some fits s = rw (← n) ((refl, rw (u32_stands bytes q 0 (omega arith) s) refl), u32_length 0)
scalar_spells bytes t q (Pod-F.Id m) n some fits s = rw (← n) ((refl, sym (u32_stands bytes q m fits s)), u32_length m)
scalar_spells bytes t q (Pod-F.Int z) n some fits s = rw (← n) ((refl, signed_four bytes q z fits s), u32_length (cast_unsigned w32 z))
scalar_spells bytes t q (Pod-F.Long z) n some fits s = rw (← n) ((refl, signed_eight bytes q z fits s), u64_length (cast_unsigned w64 z))
scalar_spells bytes t q (Pod-F.FloatBits m) n some fits s = rw (← n) ((refl, sym (u32_stands bytes q m fits s)), u32_length m)
scalar_spells bytes t q (Pod-F.DoubleBits m) n some fits s = rw (← n) ((refl, sym (u64_stands bytes q m fits s)), u64_length m)
scalar_spells bytes t q (Pod-F.Rectangle width height) n some fits s = let p = pair_stands bytes q width height fits.0 fits.1 s in
    rw (← n) ((refl, p.0, p.1), pair_length width height)
scalar_spells bytes t q (Pod-F.Fraction num denom) n some fits s = let p = pair_stands bytes q num denom fits.0 fits.1 s in
    rw (← n) ((refl, p.0, p.1), pair_length num denom)
scalar_spells bytes t q (Pod-F.Fd z) n some fits s = rw (← n) ((refl, signed_eight bytes q z fits s), u64_length (cast_unsigned w64 z))
scalar_spells bytes t q other n some fits s = absurd (omega (arith, some, ap child_size n))
