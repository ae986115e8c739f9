-- Sums that stay at the greatest number, and limits that they pass.
use Rattle.std.proofs.Common.{◌≡◌, inl, inr, ℕ, ◌+◌, ◌-◌, ◌^◌, ◌<◌, ◌≤◌, min, Bool, true, false, Option, Some, None, refl, sym, ap, ◌∙◌, arith}
use Rattle.std.specs.Prelude.{nat_lt, if◌then◌else◌}
use Rattle.std.proofs.lemmas.Bool.{cases_lt, lt-ltb, le-ltb, ltb-false}
use Rattle.std.proofs.lemmas.Option.{none-some}
use Rattle.pw_lists.specs.declared.limit.Which.{Which}
use Rattle.pw_lists.specs.declared.limit.Which.TheVariants as W
use Rattle.pw_graph.specs.PlanSums.{capped}
use Rattle.graph_lines.specs.declared.limits.Sums.{Sums}
use Rattle.graph_lines.specs.Sums.{passed, capped_sums}

pub to_capped : (n : ℕ) → min n (2 ^ 64 - 1) ≡ capped n
unfolding capped
to_capped n = refl

pub capped-add_right : (a b : ℕ) → capped (a + capped b) ≡ capped (a + b)
unfolding capped
capped-add_right a b = omega arith

pub capped_exact : (n k : ℕ) → k < 2 ^ 63 → capped n ≤ k → capped n ≡ n
unfolding capped
capped_exact n k small le = omega arith

pub capped_over : (n k : ℕ) → k < 2 ^ 63 → k < capped n → k < n
unfolding capped
capped_over n k small lt = omega arith

-- the first limit
pub passes_events : (s : Sums) → 4194304 < s.events → passed s ≡ Some W.Events
passes_events s lt = rw (lt-ltb 4194304 s.events lt) refl

pub passes_samples : (s : Sums) → s.events ≤ 4194304 → 134217728 < s.samples → passed s ≡ Some W.SinkSamples
passes_samples s le lt = rw (le-ltb 4194304 s.events le) (rw (lt-ltb 134217728 s.samples lt) refl)

pub passes_bytes : (s : Sums) → s.events ≤ 4194304 → s.samples ≤ 134217728 → 268435456 < s.bytes → passed s ≡ Some W.BlockBytes
passes_bytes s le few lt = rw (le-ltb 4194304 s.events le) (rw (le-ltb 134217728 s.samples few) (rw (lt-ltb 268435456 s.bytes lt) refl))

pub passes_none : (s : Sums) → s.events ≤ 4194304 → s.samples ≤ 134217728 → s.bytes ≤ 268435456 → passed s ≡ None
passes_none s le few small = rw (le-ltb 4194304 s.events le) (rw (le-ltb 134217728 s.samples few) (rw (le-ltb 268435456 s.bytes small) refl))

-- a sum of what is counted
pub counted_sum : (a x y t : ℕ) → x ≡ capped y → t ≡ capped (a + x) → t ≡ capped (a + y)
counted_sum a x y t e f = f ∙ (ap (λ (k : ℕ). capped (a + k)) e ∙ capped-add_right a y)

pub counted_over : (n k t : ℕ) → k < 2 ^ 63 → t ≡ capped n → k < t → k < n
counted_over n k t small e lt = capped_over n k small (omega (arith, e, lt))

pub counted_within : (n k t : ℕ) → k < 2 ^ 63 → t ≡ capped n → t ≤ k → t ≡ n
counted_within n k t small e le = e ∙ capped_exact n k small (omega (arith, e, le))

pub same_sums : (events samples bytes : ℕ) (s : Sums) → events ≡ s.events → samples ≡ s.samples → bytes ≡ s.bytes
    → record { events = events; samples = samples; bytes = bytes } ≡ s
same_sums events samples bytes s e f g = rw (e, f, g) refl

-- sums that stay at the greatest number pass the same limits; where they pass none, they are exact
capped_above : (n k : ℕ) → k < 2 ^ 63 → k < n → k < capped n
unfolding capped
capped_above n k small lt = omega arith

capped_below : (n k : ℕ) → n ≤ k → capped n ≤ k
unfolding capped
capped_below n k le = omega arith

capped_small : (n k : ℕ) → k < 2 ^ 63 → n ≤ k → capped n ≡ n
unfolding capped
capped_small n k small le = omega arith

over_capped : (n k : ℕ) → k < 2 ^ 63 → nat_lt k (capped n) ≡ nat_lt k n
over_capped n k small = elim (cases_lt k n) [
  | inl over ↦ lt-ltb k (capped n) (capped_above n k small over) ∙ sym (lt-ltb k n over)
  | inr few ↦ le-ltb k (capped n) (capped_below n k few) ∙ sym (le-ltb k n few)
]

pub passed-capped : (s : Sums) → passed (capped_sums s) ≡ passed s
passed-capped s = ap (λ (b : Bool). if b then Some W.Events else (if nat_lt 134217728 (capped s.samples) then Some W.SinkSamples
    else (if nat_lt 268435456 (capped s.bytes) then Some W.BlockBytes else None))) (over_capped s.events 4194304 (omega arith))
    ∙ (ap (λ (b : Bool). if nat_lt 4194304 s.events then Some W.Events else (if b then Some W.SinkSamples
    else (if nat_lt 268435456 (capped s.bytes) then Some W.BlockBytes else None))) (over_capped s.samples 134217728 (omega arith))
    ∙ ap (λ (b : Bool). if nat_lt 4194304 s.events then Some W.Events else (if nat_lt 134217728 s.samples then Some W.SinkSamples
    else (if b then Some W.BlockBytes else None))) (over_capped s.bytes 268435456 (omega arith)))

-- what passes no limit
none_first : (b : Bool) (w : Which) (o : Option Which) → (if b then Some w else o) ≡ None → (b ≡ false) × (o ≡ None)
none_first true w o e = absurd (none-some w (sym e))
none_first false w o e = (refl, e)

pub within_limits : (s : Sums) → passed s ≡ None → (s.events ≤ 4194304) × (s.samples ≤ 134217728) × (s.bytes ≤ 268435456)
within_limits s e =
    let a = none_first (nat_lt 4194304 s.events) W.Events (if nat_lt 134217728 s.samples then Some W.SinkSamples
    else (if nat_lt 268435456 s.bytes then Some W.BlockBytes else None)) e in
    let b = none_first (nat_lt 134217728 s.samples) W.SinkSamples (if nat_lt 268435456 s.bytes then Some W.BlockBytes else None) a.1 in
    let c = none_first (nat_lt 268435456 s.bytes) W.BlockBytes None b.1 in
    (ltb-false 4194304 s.events a.0, ltb-false 134217728 s.samples b.0, ltb-false 268435456 s.bytes c.0)

pub capped_same : (s : Sums) → passed s ≡ None → capped_sums s ≡ s
capped_same s none =
    let w = within_limits s none in let a = w.0 in let b = w.1 in let c = w.2 in
    same_sums (capped s.events) (capped s.samples) (capped s.bytes) s
    (capped_small s.events 4194304 (omega arith) a) (capped_small s.samples 134217728 (omega arith) b)
    (capped_small s.bytes 268435456 (omega arith) c)
