-- Each step on a queue keeps its rule.
use Rattle.std.proofs.Common.{◌≡◌, ◌≢◌, ℕ, zero, suc, ◌+◌, true, true≢false, List, [], ◌∷◌, ◌++◌, length, eqb, set, inl, inr, sym, refl, ap, ◌∙◌, subst, ⊎_elim, arith, filter, length-append}
use Rattle.std.specs.Prelude.{All}
use Rattle.std.specs.List.{sum_by}
use Rattle.std.proofs.lemmas.List.Elements.{All-head, All-tail, All-append, filter-append}
use Rattle.std.proofs.lemmas.List.Sums.{sum_by-cons, sum_by_push}
use mathlib.Core.Option.{some, some-injective, some-ne-none}
use lib.ListN.{get_elem?}
use Rattle.crossbeam_queue.specs.Fifo.{Pushes, Pops, Forks}
use Rattle.crossbeam_queue.proofs.Lists.{at_set, at_snoc}
use Rattle.ready_queues.specs.declared.hand.Hand.{Hand}
use Rattle.ready_queues.specs.Hands.{hand, unnamed, with_pushed, with_received}
use Rattle.ready_queues.specs.QueueRule.{IsNodeOf, times, pushes, receipts, IsHandOf, IsQueue, IsUnnamed, Keeps}

-- a sum over the hands after one of them has changed
sum_set : (f : Hand → ℕ) (hands : List Hand) (k : ℕ) (v w : Hand) → get_elem? hands k ≡ some v → sum_by f (set hands k w) + f v ≡ sum_by f hands + f w
sum_set f [] k v w at = absurd (some-ne-none v (sym at))
sum_set f (x ∷ xs) zero v w at = let e : f x ≡ f v = ap f (some-injective x v at) in omega (arith, sum_by-cons f w xs, sum_by-cons f x xs)
sum_set f (x ∷ xs) (suc k) v w at = let h = sum_set f xs k v w at in omega (arith, sum_by-cons f x (set xs k w), sum_by-cons f x xs)

times_append : (x : ℕ) (xs ys : List ℕ) → times x (xs ++ ys) ≡ times x xs + times x ys
times_append x xs ys = ap length (filter-append (λ z. eqb z x) xs ys) ∙ length-append (filter (λ z. eqb z x) xs) (filter (λ z. eqb z x) ys)

abbrev AreNamed : List ℕ → ℕ → List Hand → Type 0
AreNamed owner number hands = (k : ℕ) (h : Hand) → get_elem? hands k ≡ some h → IsHandOf owner number h

named_set : (owner : List ℕ) (number : ℕ) (hands : List Hand) (k : ℕ) (w : Hand) → AreNamed owner number hands → IsHandOf owner number w → AreNamed owner number (set hands k w)
named_set owner number hands k w all mine j h at = ⊎_elim (λ (x : (j ≡ k) × (w ≡ h)). subst (IsHandOf owner number) x.1 mine)
    (λ (x : (j ≢ k) × (get_elem? hands j ≡ some h)). all j h x.1) (at_set hands k j w h at)

named_snoc : (owner : List ℕ) (number : ℕ) (hands : List Hand) (w : Hand) → AreNamed owner number hands → IsHandOf owner number w → AreNamed owner number (hands ++ w ∷ [])
named_snoc owner number hands w all mine j h at = ⊎_elim (λ (x : get_elem? hands j ≡ some h). all j h x)
    (λ (x : w ≡ h). subst (IsHandOf owner number) x mine) (at_snoc hands w h j at)

all_none : {A : Type 0} (P : A → Type 0) → All P []
all_none P k d low = absurd (omega arith)

all_one : {A : Type 0} (P : A → Type 0) (x : A) → P x → All P (x ∷ [])
all_one P x p zero d low = p
all_one P x p (suc k) d low = absurd (omega arith)

only_one : (k : ℕ) (h : Hand) → get_elem? (unnamed ∷ []) k ≡ some h → unnamed ≡ h
only_one zero h e = some-injective unnamed h e
only_one (suc k) h e = absurd (some-ne-none h (sym e))

-- a hand that is named is one of a queue of its loop
pub named_queue : (items : List ℕ) (hands : List Hand) (k : ℕ) (h : Hand) → Keeps items hands → get_elem? hands k ≡ some h → h.named ≡ true → IsQueue h.owner h.number items hands
named_queue items hands k h kept at named = ⊎_elim
    (λ (u : IsUnnamed items hands). let e : unnamed ≡ h = only_one k h (ap (λ l. get_elem? l k) (sym u.1) ∙ at) in
    absurd (true≢false (sym named ∙ ap (λ (g : Hand). g.named) (sym e))))
    (λ (q : (owner : List ℕ) × (number : ℕ) × IsQueue owner number items hands). let r : IsQueue q.0 q.1 items hands = q.2 in let same = r.named k h at in
    subst (λ (p : List ℕ × ℕ). IsQueue p.0 p.1 items hands) (λ i. (sym same.1 i, sym same.2 i)) r)
    kept

pub begins : Keeps [] (unnamed ∷ [])
begins = inl (refl, refl)

pub may_push : (n port : ℕ) (h : Hand) (x : ℕ) → h.named ≡ true → IsNodeOf h.owner h.number x → Pushes Keeps n port h x (λ w. w ≡ with_pushed h x)
may_push n port h x named node items hands room kept at =
    let q = named_queue items hands port h kept at named in
    let w : Hand = with_pushed h x in (
      w,
      inr (
        h.owner,
        h.number,
        record {
          nodes = All-append (IsNodeOf h.owner h.number) items (x ∷ []) q.nodes (all_one (IsNodeOf h.owner h.number) x node);
          named = named_set h.owner h.number hands port w q.named (named, refl, refl);
          balanced = λ y. let p = sum_set (λ (g : Hand). times y g.pushed) hands port h w at in
              let r = sum_set (λ (g : Hand). times y g.received) hands port h w at in
              let b = q.balanced y in
              omega (arith, times_append y h.pushed (x ∷ []), times_append y items (x ∷ []));
        },
      ),
      refl,
    )

pub may_pop : (port : ℕ) (h : Hand) → h.named ≡ true → Pops Keeps port h (λ x w. (w ≡ with_received h x) × IsNodeOf h.owner h.number x)
may_pop port h named x items hands kept at =
    let q = named_queue (x ∷ items) hands port h kept at named in
    let w : Hand = with_received h x in (
      w,
      inr (
        h.owner,
        h.number,
        record {
          nodes = All-tail (IsNodeOf h.owner h.number) x items q.nodes;
          named = named_set h.owner h.number hands port w q.named (named, refl, refl);
          balanced = λ y. let p = sum_set (λ (g : Hand). times y g.pushed) hands port h w at in
              let r = sum_set (λ (g : Hand). times y g.received) hands port h w at in
              let b : pushes y hands ≡ receipts y hands + times y (x ∷ items) = q.balanced y in
              omega (arith, times_append y h.received (x ∷ []), times_append y (x ∷ []) items);
        },
      ),
      (refl, All-head (IsNodeOf h.owner h.number) x items q.nodes),
    )

-- one hand more, with which nothing was done
pub may_deal : (port : ℕ) (h : Hand) → h.named ≡ true → Forks Keeps port h h (hand h.owner h.number [] [])
may_deal port h named items hands kept at =
    let q = named_queue items hands port h kept at named in
    let r : Hand = hand h.owner h.number [] [] in
    let all : List Hand = set hands port h in
    inr (
      h.owner,
      h.number,
      record {
        nodes = q.nodes;
        named = named_snoc h.owner h.number all r (named_set h.owner h.number hands port h q.named (named, refl, refl)) (refl, refl, refl);
        balanced = λ y. let p = sum_set (λ (g : Hand). times y g.pushed) hands port h h at in
            let s = sum_set (λ (g : Hand). times y g.received) hands port h h at in
            let b = q.balanced y in
            omega (arith, sum_by_push (λ (g : Hand). times y g.pushed) all r, sum_by_push (λ (g : Hand). times y g.received) all r);
      },
    )

fresh : (owner : List ℕ) (number port : ℕ) (v : Hand) → get_elem? (unnamed ∷ []) port ≡ some v
    → Keeps [] (set (unnamed ∷ []) port (hand owner number [] []) ++ hand owner number [] [] ∷ [])
fresh owner number zero v at = let w : Hand = hand owner number [] [] in inr (
  owner,
  number,
  record {
    nodes = all_none (IsNodeOf owner number);
    named = named_snoc owner number (w ∷ []) w (named_snoc owner number [] w (λ k h e. absurd (some-ne-none h (sym e))) (refl, refl, refl)) (refl, refl, refl);
    balanced = λ y. refl;
  },
)
fresh owner number (suc port) v at = absurd (some-ne-none v (sym at))

-- the queue is named for its loop
pub may_name : (owner : List ℕ) (number port : ℕ) (v : Hand) → v ≡ unnamed → Forks Keeps port v (hand owner number [] []) (hand owner number [] [])
may_name owner number port v is items hands kept at = let w : Hand = hand owner number [] [] in ⊎_elim
    (λ (u : IsUnnamed items hands). subst (λ (p : List ℕ × List Hand). Keeps p.0 (set p.1 port w ++ w ∷ [])) (λ i. (sym u.0 i, sym u.1 i))
    (fresh owner number port v (ap (λ l. get_elem? l port) (sym u.1) ∙ at)))
    (λ (q : (owner : List ℕ) × (number : ℕ) × IsQueue owner number items hands). let r : IsQueue q.0 q.1 items hands = q.2 in
    absurd (true≢false (sym (r.named port v at).0 ∙ ap (λ (g : Hand). g.named) is)))
    kept
