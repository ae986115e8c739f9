-- The cycles that a node works, epoch by epoch.
use Rattle.std.proofs.Common.{◌≡◌, ℕ, zero, suc, ◌+◌, ◌*◌, ◌<◌, ◌≤◌, Bool, true, false, nat_le, nat_lt, cond}
use Rattle.std.proofs.Common.{List, [], ◌∷◌, ◌++◌, length, filter, find, Some, option_map, unwrap_or, sum_by, take, get_or}
use Rattle.std.proofs.Common.{refl, sym, ap, ap₂, ◌∙◌, arith, length-append}
use Rattle.std.specs.List.{range_with_len}
use Rattle.std.proofs.lemmas.Bool.{cond-true, cond-false, and_from, and_right, le-leb, lt-ltb, le-ltb}
use Rattle.std.proofs.lemmas.List.Elements.{filter-append}
use Rattle.std.proofs.lemmas.List.Sums.{sum_by-cons, sum_by_more, sum_by-take-le}
use Rattle.pw_graph.specs.declared.plan.Epoch.{Epoch}
use Rattle.pw_graph.specs.declared.plan.Plan.{Plan}
use Rattle.pw_graph.specs.PlanSums.{epoch_events}
use Rattle.pw_graph.specs.SoundPlan.{FollowFrom, IsSoundPlan}
use Rattle.cycle_model.specs.Epochs.{is_within, all_cycles}
use Rattle.node_progress.specs.Standing.{works_in, worked}

-- the cycles of an epoch, where the node works in it
abbrev pub own_cycles : ℕ → Epoch → ℕ
own_cycles n e = cond (works_in e n) e.shape.cycles 0

-- ranges one after the other
range_joined : (a m n : ℕ) → range_with_len a (m + n) ≡ range_with_len a m ++ range_with_len (a + m) n
range_joined a zero n = let z : a ≡ a + 0 = omega arith in let y : 0 + n ≡ n = omega arith in ap (range_with_len a) y ∙ ap (λ b. range_with_len b n) z
range_joined a (suc m) n =
    let s : suc m + n ≡ suc (m + n) = omega arith in
    let on : a + 1 + m ≡ a + suc m = omega arith in
    ap (range_with_len a) s ∙ ap (λ l. a ∷ l) (range_joined (a + 1) m n ∙ ap (λ b. range_with_len (a + 1) m ++ range_with_len b n) on)

-- tests that agree on a range
agree_on : (p q : ℕ → Bool) (a n : ℕ) → ((c : ℕ) → a ≤ c → c < a + n → p c ≡ q c) → filter p (range_with_len a n) ≡ filter q (range_with_len a n)
agree_on p q a zero h = refl
agree_on p q a (suc n) h =
    let here = h a (omega arith) (omega arith) in
    let rest = agree_on p q (a + 1) n (λ c low high. h c (omega (arith, low)) (omega (arith, high))) in
    ap₂ (λ b l. cond b (a ∷ l) l) here rest

all_or_none : (b : Bool) (a n : ℕ) → length (filter (λ c. b) (range_with_len a n)) ≡ cond b n 0
all_or_none true a zero = refl
all_or_none false a zero = refl
all_or_none true a (suc n) = let rest = all_or_none true (a + 1) n in omega (arith, rest)
all_or_none false a (suc n) = all_or_none false (a + 1) n

-- the node works in a cycle, by a search in these epochs
abbrev works_by : List Epoch → ℕ → ℕ → Bool
works_by es n c = unwrap_or (option_map (λ e. works_in e n) (find (λ e. is_within e c) es)) false

counted : (f : ℕ) (es : List Epoch) (n : ℕ) → FollowFrom f es
    → length (filter (works_by es n) (range_with_len f (sum_by (λ e. e.shape.cycles) es))) ≡ sum_by (own_cycles n) es
counted f [] n h = refl
counted f (x ∷ xs) n h =
    let begins = h.0 in
    let sum = sum_by-cons (λ (e : Epoch). e.shape.cycles) x xs in
    let first : filter (works_by (x ∷ xs) n) (range_with_len f x.shape.cycles) ≡ filter (λ c. works_in x n) (range_with_len f x.shape.cycles) =
    agree_on (works_by (x ∷ xs) n) (λ c. works_in x n) f x.shape.cycles
    (λ c low high. ap (λ o. unwrap_or (option_map (λ (e : Epoch). works_in e n) o) false)
    (cond-true (is_within x c) (Some x) (find (λ e. is_within e c) xs)
    (and_from _ _ (le-leb x.shape.first c (omega (arith, low, begins)))
    (lt-ltb c (x.shape.first + x.shape.cycles) (omega (arith, high, begins)))))) in
    let later : filter (works_by (x ∷ xs) n) (range_with_len (f + x.shape.cycles) (sum_by (λ (e : Epoch). e.shape.cycles) xs))
    ≡ filter (works_by xs n) (range_with_len (f + x.shape.cycles) (sum_by (λ (e : Epoch). e.shape.cycles) xs)) =
    agree_on (works_by (x ∷ xs) n) (works_by xs n) (f + x.shape.cycles) (sum_by (λ (e : Epoch). e.shape.cycles) xs)
    (λ c low high. ap (λ o. unwrap_or (option_map (λ (e : Epoch). works_in e n) o) false)
    (cond-false (is_within x c) (Some x) (find (λ e. is_within e c) xs)
    (and_right (nat_le x.shape.first c) (nat_lt c (x.shape.first + x.shape.cycles))
    (le-ltb c (x.shape.first + x.shape.cycles) (omega (arith, low, begins)))))) in
    ap (λ m. length (filter (works_by (x ∷ xs) n) (range_with_len f m))) sum
    ∙ ap (λ l. length (filter (works_by (x ∷ xs) n) l)) (range_joined f x.shape.cycles (sum_by (λ (e : Epoch). e.shape.cycles) xs))
    ∙ ap length (filter-append (works_by (x ∷ xs) n) (range_with_len f x.shape.cycles)
    (range_with_len (f + x.shape.cycles) (sum_by (λ (e : Epoch). e.shape.cycles) xs)))
    ∙ length-append (filter (works_by (x ∷ xs) n) (range_with_len f x.shape.cycles))
    (filter (works_by (x ∷ xs) n) (range_with_len (f + x.shape.cycles) (sum_by (λ (e : Epoch). e.shape.cycles) xs)))
    ∙ ap₂ (λ a b. a + b) (ap length first ∙ all_or_none (works_in x n) f x.shape.cycles)
    (ap length later ∙ counted (f + x.shape.cycles) xs n h.1)
    ∙ sym (sum_by-cons (own_cycles n) x xs)

pub worked_is : (plan : Plan) → IsSoundPlan plan → (n : ℕ) → sum_by (own_cycles n) plan.epochs ≡ worked plan n (all_cycles plan)
worked_is plan sound n = sym (counted 0 plan.epochs n sound.follow)

-- few enough to count: each cycle has an event
few_by : (n : ℕ) (e : Epoch) → own_cycles n e ≤ epoch_events e
few_by n e = by (works_in e n)
  where
    more : (c m : ℕ) → c ≤ c * (m + 3)
    more c m = let whole : c * (m + 3) ≡ c * m + 3 * c = omega arith in omega (arith, whole)

    by : (b : Bool) → cond {A = ℕ} b e.shape.cycles 0 ≤ e.shape.cycles * (2 * length e.shape.nodes + 3)
    by true = more e.shape.cycles (2 * length e.shape.nodes)
    by false = omega arith

pub few_cycles : (n : ℕ) (es : List Epoch) → sum_by (own_cycles n) es ≤ sum_by epoch_events es
few_cycles n [] = omega arith
few_cycles n (e ∷ es) = let a = sum_by-cons (own_cycles n) e es in let b = sum_by-cons epoch_events e es in
    let here = few_by n e in let rest = few_cycles n es in omega (arith, a, b, here, rest)

pub sum_within : (n : ℕ) (es : List Epoch) (i : ℕ) → i < length es → (d : Epoch)
    → sum_by (own_cycles n) (take i es) + own_cycles n (get_or es i d) ≤ sum_by epoch_events es
sum_within n es i low d = let a = sum_by_more (own_cycles n) es i d low in let b = sum_by-take-le (own_cycles n) es (i + 1) in
    let c = few_cycles n es in omega (arith, a, b, c)
