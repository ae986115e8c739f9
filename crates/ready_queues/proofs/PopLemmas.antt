-- The ends of a way after it has tried to take a number out of a queue.
use Rattle.std.proofs.Common.{◌≡◌, ℕ, ◌+◌, ◌<◌, Option, List, [], ◌∷◌, length, set, get_or, sym, refl, ap, ◌∙◌, subst, arith, cond, eq-eqb, ne_eqb, min, ◌^◌, ◌-◌, length-append}
use Rattle.std.specs.Prelude.{⊤, Some, None, slice_get, IfSome, IfNone, MatchOption, is_some}
use Rattle.std.proofs.lemmas.Option.{get_or_from_slice_get, slice_get-get_or}
use Rattle.std.proofs.lemmas.List.Sums.{sum_by-set}
use Rattle.crossbeam_queue.specs.Fifo.{Held}
use Rattle.crossbeam_queue.specs.Passes.{Pass, view, IsSamePass}
use Rattle.ready_queues.specs.declared.hand.Hand.{Hand}
use Rattle.ready_queues.specs.declared.end.End.{End}
use Rattle.ready_queues.specs.declared.lane.Lane.{Lane}
use Rattle.ready_queues.specs.Hands.{with_received}
use Rattle.ready_queues.specs.QueueRule.{IsNodeOf, IsHandOf}
use Rattle.ready_queues.specs.Ends.{hand_of, wakes_of, sight_of, AreEndsOf, received_by}
use Rattle.ready_queues.specs.Receiving.{IsSameEnd, AreSameEnds, HasReceivedAt, HasReceived}
use Rattle.ready_queues.proofs.EndLemmas.{related, end_at, ends_set}

-- what a pop says of the hand before and the hand after
abbrev pub Popped : Option ℕ → Hand → Hand → Type 0
Popped result h k = MatchOption result ((k ≡ h) × Held 0 (λ (items : List ℕ). ⊤)) (λ x. (k ≡ with_received h x) × IsNodeOf h.owner h.number x)

same_loop : (owner : List ℕ) (number : ℕ) (result : Option ℕ) (h k : Hand) → IsHandOf owner number h → Popped result h k → IsHandOf owner number k
same_loop owner number None h k is p = subst (IsHandOf owner number) (sym p.0) is
same_loop owner number (Some x) h k is p = subst (IsHandOf owner number) (sym p.0) is

module _ (owner : List ℕ) (lanes : List Lane) (ends : List End) (are : AreEndsOf owner lanes ends) (number : ℕ) (d : End) (pass : Pass ℕ Hand) (low : number < length lanes) (same : IsSamePass (get_or ends number d).pass pass) where
  abbrev old : End
  old = get_or ends number d

  abbrev new : End
  new = record old { pass = pass }

  pub pop_ends : (result : Option ℕ) → Popped result (hand_of old) (view pass) → AreEndsOf owner lanes (set ends number new)
  pop_ends result p = ends_set owner lanes ends are number new (λ lane at. let e = are.each number lane old at (there lane) in record {
    pass = (same.0 ∙ e.pass.0, same.2 ∙ e.pass.1);
    wake = e.wake;
    start = e.start;
    hand = same_loop owner number result (hand_of old) (view pass) e.hand p;
  })
    where
      there : (lane : Lane) → slice_get ends number ≡ Some old
      there lane = let n = are.count in slice_get-get_or ends number d (omega arith)

  pub pop_node : (lane : Lane) (result : Option ℕ) → Popped result (hand_of old) (view pass) → IfSome result (λ x. IsNodeOf owner number x)
  pop_node lane None p = tt
  pop_node lane (Some x) p = let e = end_at owner lanes ends are number lane d low in
      subst (λ (q : List ℕ × ℕ). IsNodeOf q.0 q.1 x) (λ i. (e.hand.1 i, e.hand.2 i)) p.1

  pub pop_some : (result : Option ℕ) → Popped result (hand_of old) (view pass) → IfSome result (λ x. HasReceived number x ends (set ends number new))
  pop_some None p = tt
  pop_some (Some x) p = related (HasReceivedAt number x) ends number new
      (λ j e other. record { hand = sym (ap (λ b. cond b (with_received (hand_of e) x) (hand_of e)) (ne_eqb j number other)); wakes = refl; sight = refl })
      (λ e at. let is : old ≡ e = get_or_from_slice_get ends number e d at in record {
        hand = p.0 ∙ ap (λ (f : End). with_received (hand_of f) x) is ∙ sym (ap (λ b. cond b (with_received (hand_of e) x) (hand_of e)) (eq-eqb number number refl));
        wakes = ap wakes_of is;
        sight = ap sight_of is;
      })

  pub pop_none : (result : Option ℕ) → Popped result (hand_of old) (view pass) → IfNone result (AreSameEnds ends (set ends number new))
  pop_none (Some x) p = tt
  pop_none None p = related (λ j a b. IsSameEnd a b) ends number new (λ j e other. record { hand = refl; wakes = refl; sight = refl })
      (λ e at. let is : old ≡ e = get_or_from_slice_get ends number e d at in record { hand = p.0 ∙ ap hand_of is; wakes = ap wakes_of is; sight = ap sight_of is })

  pub pop_count : (result : Option ℕ) → Popped result (hand_of old) (view pass) → received_by (set ends number new) ≡ received_by ends + cond (is_some result) 1 0
  pop_count result p = let n = are.count in let f : End → ℕ = λ e. length (hand_of e).received in
      let s = sum_by-set f ends number new d (omega arith) in let g = grows result (hand_of old) (view pass) p in omega arith
    where
      grows : (result : Option ℕ) (h k : Hand) → Popped result h k → length k.received ≡ length h.received + cond (is_some result) 1 0
      grows None h k p = let e = ap (λ (g : Hand). length g.received) p.0 in omega arith
      grows (Some x) h k p = let e = ap (λ (g : Hand). length g.received) p.0 in omega (arith, length-append h.received (x ∷ []))

min_more : (t r k : ℕ) → t ≡ min r (2 ^ 64 - 1) → min (t + k) (2 ^ 64 - 1) ≡ min (r + k) (2 ^ 64 - 1)
min_more t r k e = omega arith

-- the count of numbers received stays that of the ends
pub still_counted : (t r r' k u : ℕ) → t ≡ min r (2 ^ 64 - 1) → r' ≡ r + k → u ≡ min (t + k) (2 ^ 64 - 1) → u ≡ min r' (2 ^ 64 - 1)
still_counted t r r' k u e f g = g ∙ min_more t r k e ∙ ap (λ (n : ℕ). min n (2 ^ 64 - 1)) (sym f)
