-- Each gain of the table is the nearest, computed.
use Rattle.std.proofs.Common.{◌≡◌, ℕ, zero, suc, ◌+◌, ◌-◌, ◌*◌, ◌^◌, ◌<◌, ◌≤◌, refl, sym, subst, arith, List, [], ◌∷◌, length, get_or, Bool, true, ◌&&◌, nat_le}
use Rattle.std.specs.Prelude.{nat_lt}
use Rattle.std.proofs.lemmas.Bool.{and_parts, leb-true, ltb-true}
use Rattle.pod_text.specs.Decibels.{decibel_gains, IsNearest}

is_nearest : ℕ → ℕ → Bool
is_nearest i g = nat_le ((2 * g - 1) ^ 20 * 10 ^ 60) (512 ^ 20 * 10 ^ i)
    && (nat_lt (512 ^ 20 * 10 ^ i) ((2 * g + 1) ^ 20 * 10 ^ 60) && nat_le g 32767)

are_nearest : ℕ → List ℕ → Bool
are_nearest i [] = true
are_nearest i (g ∷ gs) = is_nearest i g && are_nearest (i + 1) gs

all_nearest : are_nearest 0 decibel_gains ≡ true
unfolding are_nearest is_nearest
all_nearest = refl

each : (i : ℕ) (gs : List ℕ) (k : ℕ) → are_nearest i gs ≡ true → k < length gs → is_nearest (i + k) (get_or gs k 0) ≡ true
unfolding are_nearest
each i [] k h l = absurd (omega arith)
each i (g ∷ gs) zero h l =
    let same : i ≡ i + 0 = omega arith in
    subst (λ (n : ℕ). is_nearest n g ≡ true) same (and_parts (is_nearest i g) (are_nearest (i + 1) gs) h).0
each i (g ∷ gs) (suc k) h l =
    let same : i + 1 + k ≡ i + suc k = omega arith in
    subst (λ (n : ℕ). is_nearest n (get_or gs k 0) ≡ true) same
    (each (i + 1) gs k (and_parts (is_nearest i g) (are_nearest (i + 1) gs) h).1 (omega arith))

told : (i g : ℕ) → is_nearest i g ≡ true → IsNearest i g × (g ≤ 32767)
unfolding is_nearest
told i g h =
    let a = and_parts (nat_le ((2 * g - 1) ^ 20 * 10 ^ 60) (512 ^ 20 * 10 ^ i)) _ h in
    let b = and_parts (nat_lt (512 ^ 20 * 10 ^ i) ((2 * g + 1) ^ 20 * 10 ^ 60)) (nat_le g 32767) a.1 in
    ((leb-true _ _ a.0, ltb-true _ _ b.0), leb-true g 32767 b.1)

at : (i : ℕ) → i < 103 → IsNearest i (get_or decibel_gains i 0) × (get_or decibel_gains i 0 ≤ 32767)
at i l =
    let same : 0 + i ≡ i = omega arith in
    told i (get_or decibel_gains i 0)
    (subst (λ (n : ℕ). is_nearest n (get_or decibel_gains i 0) ≡ true) same (each 0 decibel_gains i all_nearest l))

pub table_nearest : (i g : ℕ) → i < 103 → g ≡ get_or decibel_gains i 0 → IsNearest i g
table_nearest i g l is = subst (IsNearest i) (sym is) (at i l).0

pub table_small : (i g : ℕ) → i < 103 → g ≡ get_or decibel_gains i 0 → g ≤ 32767
table_small i g l is = subst (λ (n : ℕ). n ≤ 32767) (sym is) (at i l).1
