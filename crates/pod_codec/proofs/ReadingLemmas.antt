-- One thing more after others, and what is left of whole elements.
use Rattle.std.proofs.Common.{◌≡◌, ℕ, suc, length, min, nat_lt, ap, ◌∙◌, ◌+◌, ◌-◌, ◌%◌, ◌<◌, ◌≤◌, Bool, true, false, cond}
use Rattle.std.proofs.Common.{◌⊎◌, inl, inr, List, [], ◌∷◌, ◌++◌, refl, sym, subst, arith, None}
use Rattle.std.proofs.lemmas.Bool.{cases_lt, lt-ltb, le-ltb}
use Rattle.pod_codec.specs.PodType.{child_size, has_four_bytes, has_eight_bytes}
use Rattle.pod_codec.specs.declared.pod.Pod.{Pod}
use Rattle.pod_codec.specs.declared.pod.Pod.TheViews.{out-Pod}
use Rattle.pod_codec.specs.declared.fault.PodFault.{PodFault}
use Rattle.pod_codec.specs.declared.fault.PodFault.TheVariants.{Memory, Short, Large}
use Rattle.pod_codec.specs.Framing.{pad8}
use Rattle.pod_codec.specs.Places.{u32_at, AreAfter}
use Rattle.pod_codec.specs.Spelling.{IsBodyAt, SpellsAt}
use Rattle.pod_codec.specs.Checks.{first_failed, header_checks, outer_checks}
use Rattle.pod_codec.specs.FirstFault.{IsBodyFault, FaultsAt, IsFirstFault}

pub after_more : {X : Type 0} (R : ℕ → X → ℕ → Type 0) (p : ℕ) (xs : List X) (m n : ℕ) (x : X) → AreAfter R p xs m → R m x n
    → AreAfter R p (xs ++ x ∷ []) n
after_more R p [] m n x h r = (n, subst (λ (k : ℕ). R k x n) (sym h) r, refl)
after_more R p (y ∷ ys) m n x h r = (h.0, h.1, after_more R h.0 ys m n x h.2 r)

sized : (a b : Bool) (s : ℕ) → s ≡ cond a 4 (cond b 8 0) → 0 < s → (s ≡ 4) ⊎ (s ≡ 8)
sized true b s e h = inl e
sized false true s e h = inr e
sized false false s e h = absurd (omega arith)

pub four_or_eight : (child : ℕ) → 0 < child_size child → (child_size child ≡ 4) ⊎ (child_size child ≡ 8)
four_or_eight child h = sized (has_four_bytes child) (has_eight_bytes child) (child_size child) refl h

pub whole_less : (s end next : ℕ) → (s ≡ 4) ⊎ (s ≡ 8) → (end - next) % s ≡ 0 → next < end → (next + s ≤ end)
    × ((end - (next + s)) % s ≡ 0)
whole_less s end next (inl e) w h =
    let w4 : (end - next) % 4 ≡ 0 = subst (λ (k : ℕ). (end - next) % k ≡ 0) e w in
    (omega arith, subst (λ (k : ℕ). (end - (next + k)) % k ≡ 0) (sym e) (omega arith))
whole_less s end next (inr e) w h =
    let w8 : (end - next) % 8 ≡ 0 = subst (λ (k : ℕ). (end - next) % k ≡ 0) e w in
    (omega arith, subst (λ (k : ℕ). (end - (next + k)) % k ≡ 0) (sym e) (omega arith))

-- a header and a body are a POD
pub spelled : (below p e q : ℕ) (bytes : List ℕ) (pod : Pod) (size kind : ℕ) → size ≡ u32_at bytes p → kind ≡ u32_at bytes (p + 4) → q ≤ e
    → q ≡ p + 8 + pad8 size
    → IsBodyAt (λ a x m. SpellsAt below bytes a (p + 8 + size) x m) bytes kind (p + 8) (p + 8 + size) (out-Pod pod)
    → SpellsAt (suc below) bytes p e pod q
unfolding SpellsAt
spelled below p e q bytes pod size kind s k inside end body = (
  inside,
  end ∙ ap (λ (n : ℕ). p + 8 + pad8 n) s,
  subst (λ (n : ℕ). IsBodyAt (λ a x m. SpellsAt below bytes a (p + 8 + n) x m) bytes (u32_at bytes (p + 4)) (p + 8) (p + 8 + n)
      (out-Pod pod)) s
      (subst (λ (t : ℕ). IsBodyAt (λ a x m. SpellsAt below bytes a (p + 8 + size) x m) bytes t (p + 8) (p + 8 + size) (out-Pod pod))
      k body),
)

-- a header that is there, and a body at fault
pub faulty : (below p e : ℕ) (bytes : List ℕ) (size kind : ℕ) (f : PodFault) → size ≡ u32_at bytes p → kind ≡ u32_at bytes (p + 4)
    → first_failed (header_checks bytes p e) ≡ None
    → (f ≡ Memory) ⊎ IsBodyFault (λ a x m. SpellsAt below bytes a (p + 8 + size) x m)
    (λ a g. FaultsAt below bytes a (p + 8 + size) g) bytes p size kind f
    → (f ≡ Memory) ⊎ FaultsAt (suc below) bytes p e f
unfolding FaultsAt
faulty below p e bytes size kind f s k good (inl memory) = inl memory
faulty below p e bytes size kind f s k good (inr h) =
    inr (inr (
      good,
      subst (λ (n : ℕ). IsBodyFault (λ a x m. SpellsAt below bytes a (p + 8 + n) x m)
          (λ a g. FaultsAt below bytes a (p + 8 + n) g) bytes p n (u32_at bytes (p + 4)) f) s
          (subst (λ (t : ℕ). IsBodyFault (λ a x m. SpellsAt below bytes a (p + 8 + size) x m)
          (λ a g. FaultsAt below bytes a (p + 8 + size) g) bytes p size t f) k h),
    ))

-- an end further on spells no less
pub further : (left p e wide q : ℕ) (bytes : List ℕ) (pod : Pod) → e ≤ wide → SpellsAt (suc left) bytes p e pod q
    → SpellsAt (suc left) bytes p wide pod q
unfolding SpellsAt
further left p e wide q bytes pod h s = (omega (arith, s.0), s.1, s.2)

-- a limit past the padded body finds the same faults
same_test : (a b n : ℕ) → a ≡ min b 1048584 → n ≤ 1048584 → nat_lt a n ≡ nat_lt b n
same_test a b n e h = elim (cases_lt b n) [
  | inl x ↦ lt-ltb a n (omega arith) ∙ sym (lt-ltb b n x)
  | inr y ↦ le-ltb a n (omega arith) ∙ sym (le-ltb b n y)
]

pub fault_further : (left e wide : ℕ) (bytes : List ℕ) (f : PodFault) → e ≡ min wide 1048584 → u32_at bytes 0 ≤ 1048576
    → FaultsAt (suc left) bytes 0 e f → FaultsAt (suc left) bytes 0 wide f
unfolding FaultsAt
fault_further left e wide bytes f h size s =
    let one = same_test e wide 8 h (omega arith) in
    let two = same_test e wide (8 + pad8 (u32_at bytes 0)) h (omega arith) in
    let checks = λ (a b : Bool). first_failed ((a, Short 0) ∷ (b, Short 0) ∷ []) in
    let same : first_failed (header_checks bytes 0 e) ≡ first_failed (header_checks bytes 0 wide) =
    ap (λ a. checks a (nat_lt e (8 + pad8 (u32_at bytes 0)))) one ∙ ap (checks (nat_lt wide 8)) two in
    elim s [ inl x ↦ inl (sym same ∙ x) | inr y ↦ inr (sym same ∙ y.0, y.1) ]

pub outer_good : (bytes : List ℕ) → 8 ≤ length bytes → u32_at bytes 0 ≤ 1048576 → first_failed (outer_checks bytes) ≡ None
outer_good bytes here small =
    let checks = λ (a b : Bool). first_failed ((a, Short 0) ∷ (b, Large (u32_at bytes 0)) ∷ []) in
    ap (λ a. checks a (nat_lt 1048576 (u32_at bytes 0))) (le-ltb (length bytes) 8 here)
    ∙ ap (checks false) (le-ltb 1048576 (u32_at bytes 0) small)

pub outer_fault : (e : ℕ) (bytes : List ℕ) (f : PodFault) → e ≡ min (length bytes) 1048584 → 8 ≤ length bytes → u32_at bytes 0 ≤ 1048576
    → (f ≡ Memory) ⊎ FaultsAt 16 bytes 0 e f → (f ≡ Memory) ⊎ IsFirstFault bytes f
outer_fault e bytes f h here small (inl memory) = inl memory
outer_fault e bytes f h here small (inr s) = inr (inr (outer_good bytes here small, fault_further 15 e (length bytes) bytes f h small s))
