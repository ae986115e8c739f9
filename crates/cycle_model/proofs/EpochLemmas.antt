-- Epochs that follow one another: the one in which a cycle lies, and the cycle before it.
use Rattle.std.proofs.Common.{◌≡◌, ℕ, suc, ◌+◌, ◌≤◌, Bool, true, false, ◌==◌, nat_le, nat_lt, List, [], ◌∷◌, map, find, All, Option}
use Rattle.std.proofs.Common.{Some, None, sum_by, refl, ap, sym, ◌∙◌, subst, arith, ⊎_elim}
use Rattle.std.specs.List.{list_any}
use Rattle.std.proofs.lemmas.List.Elements.{All-head, All-tail}
use Rattle.std.proofs.lemmas.List.Sums.{sum_by-cons}
use Rattle.std.proofs.lemmas.Bool.{cases_Bool, false≢true, and_parts, and_from, and_right, cond-true, cond-false, le-leb, lt-ltb, leb-true}
use Rattle.std.proofs.lemmas.Bool.{ltb-true, le-ltb}
use Rattle.pw_graph.specs.declared.plan.Epoch.{Epoch}
use Rattle.cycle_model.specs.Epochs.{is_within, listed}
use Rattle.cycle_model.specs.Mixing.{takes_part}
use Rattle.cycle_model.specs.Renderable.{FollowFrom}
use Rattle.cycle_model.proofs.SingleEpochLemmas.{any_map}

-- the epoch that a search finds
pub found : {X : Type 0} (P : X → Type 0) (p : X → Bool) (xs : List X) (x : X) → All P xs → find p xs ≡ Some x → P x × (p x ≡ true)
found P p [] x h e = absurd (cc)
found {X} P p (y ∷ ys) x h e = ⊎_elim
    (λ (t : p y ≡ true). let same : y ≡ x = let s : Some y ≡ Some x = rw t at e in cc in
    (subst P same (All-head P y ys h), subst (λ z. p z ≡ true) same t))
    (λ (f : p y ≡ false). let s : find p ys ≡ Some x = rw f at e in found P p ys x (All-tail P y ys h) s)
    (cases_Bool (p y))

-- the epochs' first cycles ascend, and their cycles are among all
first_low : (f : ℕ) (es : List Epoch) (p : Epoch → Bool) (e : Epoch) → FollowFrom f es → find p es ≡ Some e → f ≤ e.shape.first
first_low f [] p e h g = absurd (cc)
first_low f (x ∷ xs) p e h g = ⊎_elim
    (λ (t : p x ≡ true). let s : Some x ≡ Some e = rw t at g in let same : x ≡ e = cc in let n = ap (λ y. y.shape.first) same in
    omega (arith, h.0, n))
    (λ (n : p x ≡ false). let s : find p xs ≡ Some e = rw n at g in omega (arith, first_low (f + x.shape.cycles) xs p e h.1 s))
    (cases_Bool (p x))

pub last_high : (f : ℕ) (es : List Epoch) (p : Epoch → Bool) (e : Epoch) → FollowFrom f es → find p es ≡ Some e
    → e.shape.first + e.shape.cycles ≤ f + sum_by (λ e. e.shape.cycles) es
last_high f [] p e h g = absurd (cc)
last_high f (x ∷ xs) p e h g = ⊎_elim
    (λ (t : p x ≡ true). let s : Some x ≡ Some e = rw t at g in let same : x ≡ e = cc in
    let n = ap (λ y. y.shape.first + y.shape.cycles) same in omega (arith, h.0, n, sum_by-cons (λ e. e.shape.cycles) x xs))
    (λ (n : p x ≡ false). let s : find p xs ≡ Some e = rw n at g in
    omega (arith, last_high (f + x.shape.cycles) xs p e h.1 s, sum_by-cons (λ e. e.shape.cycles) x xs))
    (cases_Bool (p x))

-- the cycle before, where it is not before the epoch's first, is of the same epoch
pub before : (f : ℕ) (es : List Epoch) (c : ℕ) (e : Epoch) → FollowFrom f es → find (λ e. is_within e (suc c)) es ≡ Some e
    → (suc c ≡ e.shape.first → ⊥) → find (λ e. is_within e c) es ≡ Some e
before f [] c e h g ne = absurd (cc)
before f (x ∷ xs) c e h g ne = ⊎_elim
    (λ (t : is_within x (suc c) ≡ true).
    let s : Some x ≡ Some e = rw t at g in
    let same : x ≡ e = cc in
    let n = ap (λ y. y.shape.first) same in
    let parts = and_parts (nat_le x.shape.first (suc c)) (nat_lt (suc c) (x.shape.first + x.shape.cycles)) t in
    let low = leb-true x.shape.first (suc c) parts.0 in
    let high = ltb-true (suc c) (x.shape.first + x.shape.cycles) parts.1 in
    let here : is_within x c ≡ true = and_from _ _ (le-leb x.shape.first c (omega (arith, low, n)))
    (lt-ltb c (x.shape.first + x.shape.cycles) (omega (arith, high))) in
    cond-true (is_within x c) (Some x) (find (λ e. is_within e c) xs) here ∙ s)
    (λ (n : is_within x (suc c) ≡ false).
    let s : find (λ e. is_within e (suc c)) xs ≡ Some e = rw n at g in
    let low : f + x.shape.cycles ≤ e.shape.first = first_low (f + x.shape.cycles) xs (λ e. is_within e (suc c)) e h.1 s in
    let t = (found (λ e. Unit {0}) (λ e. is_within e (suc c)) xs e (λ k d lt. tt) s).1 in
    let parts = and_parts (nat_le e.shape.first (suc c)) (nat_lt (suc c) (e.shape.first + e.shape.cycles)) t in
    let at_least = leb-true e.shape.first (suc c) parts.0 in
    let past : is_within x c ≡ false = and_right (nat_le x.shape.first c) (nat_lt c (x.shape.first + x.shape.cycles))
    (le-ltb c (x.shape.first + x.shape.cycles) (omega (arith, h.0, low, at_least))) in
    cond-false (is_within x c) (Some x) (find (λ e. is_within e c) xs) past ∙ before (f + x.shape.cycles) xs c e h.1 s ne)
    (cases_Bool (is_within x (suc c)))

-- the epoch in which a node is active
pub of_epoch : (o : Option Epoch) (node : ℕ) → list_any (λ n. n == node) (listed (λ e. map (λ n. n.node) e.shape.nodes) o) ≡ true
    → (e : Epoch) × (o ≡ Some e) × (takes_part e node ≡ true)
of_epoch None node h = absurd (false≢true h)
of_epoch (Some e) node h = (e, refl, sym (any_map (λ n. n.node) node e.shape.nodes) ∙ h)
