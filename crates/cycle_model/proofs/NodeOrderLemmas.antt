-- An order that grows by one free node at a time, until no node is left.
use Rattle.std.proofs.Common.{◌≡◌, ◌≢◌, ℕ, ◌-◌, ◌<◌, ◌≤◌, ◌==◌, ◌&&◌, Bool, true, false, not, List, [], ◌∷◌, ◌++◌}
use Rattle.std.proofs.Common.{length, take, get_or, set, All, refl, ap, sym, ◌∙◌, subst, arith, ⊎_elim, length-append, length-set}
use Rattle.std.proofs.Common.{slice_index}
use Rattle.std.proofs.lemmas.List.{get_or_past, get_or-set_same, get_or-set_other, get_or_append_left, get_or-append_right, take-append-le}
use Rattle.std.proofs.lemmas.List.{take_all}
use Rattle.std.proofs.lemmas.List.Folds.{list_any-append, list_any_at}
use Rattle.std.proofs.lemmas.Bool.{cases_Bool, cases_eq, cases_lt, false≢true, false_from_ne_true, eq-eqb, ne_eqb}
use Rattle.pw_graph.specs.declared.shape.ShapeLink.{ShapeLink}
use Rattle.pw_graph.specs.declared.plan.Epoch.{Epoch}
use Rattle.pw_graph.specs.LinkOrder.{is_blocked, IsFree}
use Rattle.pw_graph.proofs.OrderLemmas.{blocks}
use Rattle.cycle_model.specs.Mixing.{takes_part}
use Rattle.cycle_model.specs.working.NodeOrder.{is_among, MayFollow, IsOrder, IsWhole}

-- one node more is among them
pub among_last : (order : List ℕ) (n m : ℕ) → n ≡ m → is_among (order ++ n ∷ []) m ≡ true
among_last order n m e = let t = eq-eqb n m e in list_any-append (λ (x : ℕ). x == m) order (n ∷ [])
    ∙ rw t (⊎_elim (λ a. rw a refl) (λ b. rw b refl) (cases_Bool (is_among order m)))

pub among_kept : (order : List ℕ) (n m : ℕ) → is_among order m ≡ true → is_among (order ++ n ∷ []) m ≡ true
among_kept order n m h = list_any-append (λ (x : ℕ). x == m) order (n ∷ []) ∙ rw h refl

pub among_other : (order : List ℕ) (n m : ℕ) → m ≢ n → is_among (order ++ n ∷ []) m ≡ is_among order m
among_other order n m ne =
    let f : (n == m) ≡ false = ne_eqb n m (λ e. ne (sym e)) in
    list_any-append (λ (x : ℕ). x == m) order (n ∷ []) ∙ rw f (⊎_elim (λ a. rw a refl) (λ b. rw b refl) (cases_Bool (is_among order m)))

-- an order grows by a node that may follow
pub order_more : (e : Epoch) (order : List ℕ) (n : ℕ) → IsOrder e order → MayFollow e order n → IsOrder e (order ++ n ∷ [])
order_more e order n h more i lt = ⊎_elim
    (λ (a : i < length order).
    let front : take i (order ++ n ∷ []) ≡ take i order = take-append-le i order (n ∷ []) (omega arith) in
    let here : slice_index (order ++ n ∷ []) i ≡ slice_index order i = get_or_append_left order (n ∷ []) 0 i a in
    subst (λ xs. MayFollow e xs (slice_index (order ++ n ∷ []) i)) (sym front)
    (subst (λ m. MayFollow e (take i order) m) (sym here) (h i a)))
    (λ (b : length order ≤ i).
    let last : i ≡ length order = omega (arith, length-append order (n ∷ [])) in
    let front : take i (order ++ n ∷ []) ≡ order = take-append-le i order (n ∷ []) (omega arith) ∙ take_all i order (omega arith) in
    let zero_at : i - length order ≡ 0 = omega arith in
    let here : slice_index (order ++ n ∷ []) i ≡ n = get_or-append_right order (n ∷ []) (length order) i 0 refl b
    ∙ ap (λ k. get_or (n ∷ []) k 0) zero_at in
    subst (λ xs. MayFollow e xs (slice_index (order ++ n ∷ []) i)) (sym front) (subst (λ m. MayFollow e order m) (sym here) more))
    (cases_lt i (length order))

-- the active nodes that are left, and those that are in the order
pub record IsMarked (e : Epoch) (order : List ℕ) (left : List Bool) : Type 0 where
  pub long : length left ≡ 64
  pub here : (n : ℕ) → get_or left n false ≡ true → (takes_part e n ≡ true) × (is_among order n ≡ false)
  pub gone : (n : ℕ) → takes_part e n ≡ true → get_or left n false ≡ false → is_among order n ≡ true
  pub ordered : IsOrder e order

-- before the first all active nodes are left
pub marked_start : (e : Epoch) (left : List Bool) → length left ≡ 64 → ((n : ℕ) → n < 64 → get_or left n false ≡ takes_part e n)
    → ((n : ℕ) → takes_part e n ≡ true → n < 64) → IsMarked e [] left
marked_start e left long marks small = record {
  long = long;
  here = λ n t. ⊎_elim
      (λ (a : n < 64). (sym (marks n a) ∙ t, refl))
      (λ (b : 64 ≤ n). absurd (false≢true (sym (past left n (omega arith)) ∙ t)))
      (cases_lt n 64);
  gone = λ n t f. absurd (false≢true (sym f ∙ marks n (small n t) ∙ t));
  ordered = λ i lt. absurd (omega arith);
}
  where
    past : (xs : List Bool) (i : ℕ) → length xs ≤ i → get_or xs i false ≡ false
    past xs i h = get_or_past xs i false h

module _ (e : Epoch) (order : List ℕ) (left : List Bool) (n : ℕ) (m : IsMarked e order left) (free : IsFree e.shape.links left n)
    (active : All (λ l. takes_part e l.from.node ≡ true) e.shape.links) where
  -- a link that is not delayed and leads to the free node leads from one that is done
  ready : All (λ l. l.delayed ≡ false → l.to.node ≡ n → is_among order l.from.node ≡ true) e.shape.links
  ready k d lt prompt to =
      let l : ShapeLink = get_or e.shape.links k d in
      m.gone l.from.node (active k d lt) (false_from_ne_true _ (λ t.
      let b : is_blocked e.shape.links left n ≡ true =
      list_any_at (λ (l : ShapeLink). not l.delayed && ((l.to.node == n) && get_or left l.from.node false)) e.shape.links k d lt
      (blocks _ _ _ prompt (eq-eqb l.to.node n to) t) in false≢true (sym free.2 ∙ b)))

  follows : MayFollow e order n
  follows = record { active = (m.here n free.1).0; other = (m.here n free.1).1; ready = ready }

  pub marked_more : IsMarked e (order ++ n ∷ []) (set left n false)
  marked_more = record {
    long = simp length-set m.long;
    here = λ k t. ⊎_elim
        (λ (same : k ≡ n). absurd (false≢true (sym (ap (λ j. get_or (set left n false) j false) same
        ∙ get_or-set_same left n false false (omega (arith, m.long, free.0))) ∙ t)))
        (λ (ne : k ≢ n). let old = m.here k (sym (get_or-set_other left n k false false ne) ∙ t) in
        (old.0, among_other order n k ne ∙ old.1))
        (cases_eq k n);
    gone = λ k t f. ⊎_elim
        (λ (same : k ≡ n). among_last order n k (sym same))
        (λ (ne : k ≢ n). among_kept order n k (m.gone k t (sym (get_or-set_other left n k false false ne) ∙ f)))
        (cases_eq k n);
    ordered = order_more e order n m.ordered follows;
  }

-- where no node is left the order is whole
pub whole_end : (e : Epoch) (order : List ℕ) (left : List Bool) → IsMarked e order left → All (λ here. here ≡ false) left
    → ((n : ℕ) → takes_part e n ≡ true → n < 64) → IsWhole e order
whole_end e order left m none small n t = m.gone n t (none n false (omega (arith, m.long, small n t)))
