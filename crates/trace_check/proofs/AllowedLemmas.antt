-- What is legal inside a cycle is allowed event by event; what is allowed, and lets all nodes finish, is legal.
use Rattle.std.proofs.Common.{◌≡◌, ℕ, ◌+◌, ◌<◌, ◌≤◌, Bool, true, false, ◌==◌, List, length, get_or, take}
use Rattle.std.proofs.Common.{refl, sym, ap, ap₂, ◌∙◌, subst, arith, ◌≢◌}
use Rattle.std.proofs.lemmas.List.{get_or_default}
use Rattle.std.specs.Prelude.{count_by, Contains}
use Rattle.std.specs.List.{position_or_len}
use Rattle.std.proofs.lemmas.Bool.{true≢false, and_parts, and_from}
use Rattle.std.proofs.lemmas.Bool.Decides.{Decides-eqb}
use Rattle.std.proofs.lemmas.List.Elements.{All-map, All-contains}
use Rattle.std.proofs.lemmas.List.Sums.{passes_at_first}
use Rattle.pw_graph.specs.declared.event.Event.{Event}
use Rattle.pw_graph.specs.declared.event.Event.TheVariants.{Begin, Start, Finish, Tick, End}
use Rattle.pw_graph.specs.declared.shape.Shape.{Shape}
use Rattle.pw_graph.specs.Dependencies.{nodes_of, Precedes}
use Rattle.pw_graph.specs.History.{is_start, is_finish, is_tick, start_place, finish_place, tick_place, IsOfCycle, RunsOnce, IsLegalInside}
use Rattle.pw_graph.proofs.ShapeLemmas.{contains_mapped}
use Rattle.trace_check.specs.working.NextEvent.{MayFollow, AreAllowed, HaveFinished}
use Rattle.trace_check.proofs.PlaceLemmas.{in_front, front_within, first_from, first_below, first_in, first_within, some_pass, place_is, count_one}
use Rattle.trace_check.proofs.NextEventLemmas.{started_active}

-- the tests know their events
pub start_told : (c n : ℕ) → is_start c n (Start c n) ≡ true
start_told c n = and_from _ _ ((Decides-eqb c c).1 refl) ((Decides-eqb n n).1 refl)

pub finish_told : (c n : ℕ) → is_finish c n (Finish c n) ≡ true
finish_told c n = and_from _ _ ((Decides-eqb c c).1 refl) ((Decides-eqb n n).1 refl)

pub start_is : (c n : ℕ) (e : Event) → is_start c n e ≡ true → e ≡ Start c n
start_is c n (Begin j) t = absurd (true≢false (sym t))
start_is c n (Start j m) t = let p = and_parts (j == c) (m == n) t in ap₂ Start ((Decides-eqb j c).0 p.0) ((Decides-eqb m n).0 p.1)
start_is c n (Finish j m) t = absurd (true≢false (sym t))
start_is c n (Tick j late) t = absurd (true≢false (sym t))
start_is c n (End j) t = absurd (true≢false (sym t))

pub finish_is : (c n : ℕ) (e : Event) → is_finish c n e ≡ true → e ≡ Finish c n
finish_is c n (Begin j) t = absurd (true≢false (sym t))
finish_is c n (Start j m) t = absurd (true≢false (sym t))
finish_is c n (Finish j m) t = let p = and_parts (j == c) (m == n) t in ap₂ Finish ((Decides-eqb j c).0 p.0) ((Decides-eqb m n).0 p.1)
finish_is c n (Tick j late) t = absurd (true≢false (sym t))
finish_is c n (End j) t = absurd (true≢false (sym t))

tick_is : (e : Event) → is_tick e ≡ true → (c : ℕ) × (late : ℕ) × (e ≡ Tick c late)
tick_is (Begin j) t = absurd (true≢false (sym t))
tick_is (Start j m) t = absurd (true≢false (sym t))
tick_is (Finish j m) t = absurd (true≢false (sym t))
tick_is (Tick j late) t = (j, late, refl)
tick_is (End j) t = absurd (true≢false (sym t))

module _ (shape : Shape) (cycle : ℕ) (xs : List Event) where
  -- a front up to a place, and the first Start or Finish of a node
  started_below : (n k : ℕ) → start_place xs cycle n < k → k ≤ length xs → Contains (take k xs) (Start cycle n)
  started_below n k lt le =
      let p : ℕ = start_place xs cycle n in
      let here = passes_at_first (is_start cycle n) xs (Begin 0) (omega arith) in
      subst (Contains (take k xs)) (start_is cycle n (get_or xs p (Begin 0)) here) (in_front xs p k (Begin 0) lt le)

  finished_below : (n k : ℕ) → finish_place xs cycle n < k → k ≤ length xs → Contains (take k xs) (Finish cycle n)
  finished_below n k lt le =
      let p : ℕ = finish_place xs cycle n in
      let here = passes_at_first (is_finish cycle n) xs (Begin 0) (omega arith) in
      subst (Contains (take k xs)) (finish_is cycle n (get_or xs p (Begin 0)) here) (in_front xs p k (Begin 0) lt le)

  not_started : (n k : ℕ) → k ≤ start_place xs cycle n → ¬ Contains (take k xs) (Start cycle n)
  not_started n k le c = let lt = first_below (is_start cycle n) xs k (Start cycle n) (start_told cycle n) c in absurd (omega arith)

  not_finished : (n k : ℕ) → k ≤ finish_place xs cycle n → ¬ Contains (take k xs) (Finish cycle n)
  not_finished n k le c = let lt = first_below (is_finish cycle n) xs k (Finish cycle n) (finish_told cycle n) c in absurd (omega arith)

  start_from : (n k : ℕ) → k ≤ length xs → ¬ Contains (take k xs) (Start cycle n) → k ≤ start_place xs cycle n
  start_from n k le none = first_from (is_start cycle n) xs k (Begin 0) le
      (λ e t c. none (subst (Contains (take k xs)) (start_is cycle n e t) c))

  finish_from : (n k : ℕ) → k ≤ length xs → ¬ Contains (take k xs) (Finish cycle n) → k ≤ finish_place xs cycle n
  finish_from n k le none = first_from (is_finish cycle n) xs k (Begin 0) le
      (λ e t c. none (subst (Contains (take k xs)) (finish_is cycle n e t) c))

  module _ (h : IsLegalInside shape xs cycle) where
    runs : (n : ℕ) → Contains (nodes_of shape) n → RunsOnce xs cycle n
    runs n c = All-contains (RunsOnce xs cycle) (nodes_of shape) n (All-map (RunsOnce xs cycle) (λ m. m.node) shape.nodes h.nodes) c

    may_be : (k : ℕ) (e : Event) → k < length xs → get_or xs k e ≡ e → IsOfCycle shape xs cycle e → MayFollow shape cycle (take k xs) e
    may_be k (Begin c) lt is o = absurd o
    may_be k (Start c n) lt is o =
        let r = runs n o.1 in
        let one : count_by (is_start cycle n) xs ≡ 1 = r.start in
        let t : is_start cycle n (get_or xs k (Start c n)) ≡ true = ap (is_start cycle n) (is ∙ ap (λ j. Start j n) o.0) ∙ start_told cycle n in
        let at : start_place xs cycle n ≡ k = place_is (is_start cycle n) xs k (Start c n) (omega arith) lt t in (
          o.0,
          o.1,
          not_started n k (omega arith),
          λ m p. let w : finish_place xs cycle m < start_place xs cycle n = h.order.waits m n p in
              finished_below m k (omega arith) (omega arith),
        )
    may_be k (Finish c n) lt is o =
        let r = runs n o.1 in
        let one : count_by (is_finish cycle n) xs ≡ 1 = r.finish in
        let t : is_finish cycle n (get_or xs k (Finish c n)) ≡ true = ap (is_finish cycle n) (is ∙ ap (λ j. Finish j n) o.0) ∙ finish_told cycle n in
        let at : finish_place xs cycle n ≡ k = place_is (is_finish cycle n) xs k (Finish c n) (omega arith) lt t in
        let w : start_place xs cycle n < finish_place xs cycle n = r.order in
        (o.0, started_below n k (omega arith) (omega arith), not_finished n k (omega arith))
    may_be k (Tick c late) lt is o =
        let one : count_by is_tick xs ≤ 1 = h.ticks in
        let at : tick_place xs ≡ k = place_is is_tick xs k (Tick c late) one lt (ap is_tick is) in
        let before : tick_place xs < start_place xs cycle shape.driver = o.1 in (
          o.0,
          λ j set c. let below : tick_place xs < k = first_below is_tick xs k (Tick j set) refl c in absurd (omega arith),
          not_started shape.driver k (omega arith),
          λ n small b. let l = o.2 n small b in let w : tick_place xs < finish_place xs cycle n = l.2 in
              (l.0, l.1, not_finished n k (omega arith)),
        )
    may_be k (End c) lt is o = absurd o

    -- LEGAL IS ALLOWED
    pub legal_allowed : AreAllowed shape cycle xs
    legal_allowed k d lt = may_be k (get_or xs k d) lt (get_or_default xs k (get_or xs k d) d lt) (h.only k d lt)

    -- and all nodes have finished
    pub legal_finished : HaveFinished shape cycle xs
    legal_finished n c =
        let r = runs n c in
        let one : count_by (is_finish cycle n) xs ≡ 1 = r.finish in
        let there : finish_place xs cycle n < length xs = first_within (is_finish cycle n) xs (omega arith) in
        front_within xs (length xs) (Finish cycle n) (finished_below n (length xs) there (omega arith))

  module _ (all : AreAllowed shape cycle xs) where
    -- the event at a place, where it is known
    at_place : (k : ℕ) (d e : Event) → k < length xs → get_or xs k d ≡ e → MayFollow shape cycle (take k xs) e
    at_place k d e lt is = subst (MayFollow shape cycle (take k xs)) is (all k d lt)

    one_start : (n : ℕ) → count_by (is_start cycle n) xs ≤ 1
    one_start n = count_one (is_start cycle n) xs (λ k d lt t. start_from n k (omega arith)
        (at_place k d (Start cycle n) lt (start_is cycle n (get_or xs k d) t)).2)

    one_finish : (n : ℕ) → count_by (is_finish cycle n) xs ≤ 1
    one_finish n = count_one (is_finish cycle n) xs (λ k d lt t. finish_from n k (omega arith)
        (at_place k d (Finish cycle n) lt (finish_is cycle n (get_or xs k d) t)).2)

    one_tick : count_by is_tick xs ≤ 1
    one_tick = count_one is_tick xs (λ k d lt t. let is = tick_is (get_or xs k d) t in
        let may = at_place k d (Tick is.0 is.1) lt is.2 in
        first_from is_tick xs k (Begin 0) (omega arith)
        (λ e u c. let w = tick_is e u in may.1 w.0 w.1 (subst (Contains (take k xs)) w.2 c)))

    -- a node that has finished has started before
    in_order : (n : ℕ) → finish_place xs cycle n < length xs → start_place xs cycle n < finish_place xs cycle n
    in_order n there =
        let p : ℕ = finish_place xs cycle n in
        let here = passes_at_first (is_finish cycle n) xs (Begin 0) there in
        let may = at_place p (Begin 0) (Finish cycle n) there (finish_is cycle n (get_or xs p (Begin 0)) here) in
        first_below (is_start cycle n) xs p (Start cycle n) (start_told cycle n) may.1

    waits_for : (m n : ℕ) → Precedes shape m n → start_place xs cycle n < length xs → finish_place xs cycle m < start_place xs cycle n
    waits_for m n p there =
        let s : ℕ = start_place xs cycle n in
        let here = passes_at_first (is_start cycle n) xs (Begin 0) there in
        let may = at_place s (Begin 0) (Start cycle n) there (start_is cycle n (get_or xs s (Begin 0)) here) in
        first_below (is_finish cycle m) xs s (Finish cycle m) (finish_told cycle m) (may.3 m p)

    of_cycle : (k : ℕ) (d : Event) (e : Event) → k < length xs → get_or xs k d ≡ e → MayFollow shape cycle (take k xs) e → IsOfCycle shape xs cycle e
    of_cycle k d (Begin c) lt is may = absurd may
    of_cycle k d (Start c n) lt is may = (may.0, may.1)
    of_cycle k d (Finish c n) lt is may = (may.0, started_active shape cycle xs n all (front_within xs k (Start cycle n) may.1))
    of_cycle k d (Tick c late) lt is may =
        let here : Contains (take (k + 1) xs) (Tick c late) = subst (Contains (take (k + 1) xs)) is (in_front xs k (k + 1) d (omega arith) (omega arith)) in
        let at : tick_place xs < k + 1 = first_below is_tick xs (k + 1) (Tick c late) refl here in
        let no_start : (n : ℕ) → ¬ Contains (take k xs) (Start cycle n) → tick_place xs < start_place xs cycle n = λ n none.
        let from : k ≤ start_place xs cycle n = start_from n k (omega arith) none in
        let other : start_place xs cycle n ≢ k = λ e. place_differs (is_start cycle n) k d (Tick c late) lt is refl e in omega arith in
        let no_finish : (n : ℕ) → ¬ Contains (take k xs) (Finish cycle n) → tick_place xs < finish_place xs cycle n = λ n none.
        let from : k ≤ finish_place xs cycle n = finish_from n k (omega arith) none in
        let other : finish_place xs cycle n ≢ k = λ e. place_differs (is_finish cycle n) k d (Tick c late) lt is refl e in omega arith in (
          may.0,
          no_start shape.driver may.2,
          λ n small b. let u = may.3 n small b in (u.0, u.1, no_finish n u.2),
        )
      where
        place_differs : (f : Event → Bool) (k : ℕ) (d e : Event) → k < length xs → get_or xs k d ≡ e → f e ≡ false → ¬ (position_or_len f xs ≡ k)
        place_differs f k d e lt is fails at =
            let t : f (get_or xs (position_or_len f xs) d) ≡ true = passes_at_first f xs d (omega arith) in
            true≢false (sym t ∙ ap (λ p. f (get_or xs p d)) at ∙ ap f is ∙ fails)
    of_cycle k d (End c) lt is may = absurd may

    -- ALLOWED, WITH ALL NODES FINISHED, IS LEGAL
    pub allowed_legal : HaveFinished shape cycle xs → IsLegalInside shape xs cycle
    allowed_legal done = record {
      only = λ k d lt. of_cycle k d (get_or xs k d) lt refl (all k d lt);
      nodes = λ k d lt. runs_once (get_or shape.nodes k d).node (contains_mapped (λ n. n.node) shape.nodes k d lt);
      order = record {
        waits = λ m n p. let r = runs_once n p.depends.to_active in
            let there : finish_place xs cycle n < length xs = finish_there n p.depends.to_active in
            let o : start_place xs cycle n < finish_place xs cycle n = r.order in
            waits_for m n p (omega arith);
      };
      ticks = one_tick;
    } where
      finish_there : (n : ℕ) → Contains (nodes_of shape) n → finish_place xs cycle n < length xs
      finish_there n c = first_in (is_finish cycle n) xs (Finish cycle n) (finish_told cycle n) (done n c)

      runs_once : (n : ℕ) → Contains (nodes_of shape) n → RunsOnce xs cycle n
      runs_once n c =
          let there : finish_place xs cycle n < length xs = finish_there n c in
          let o : start_place xs cycle n < finish_place xs cycle n = in_order n there in
          let some_start : 0 < count_by (is_start cycle n) xs = some_pass (is_start cycle n) xs (start_place xs cycle n) (Begin 0) (omega arith)
          (passes_at_first (is_start cycle n) xs (Begin 0) (omega arith)) in
          let some_finish : 0 < count_by (is_finish cycle n) xs = some_pass (is_finish cycle n) xs (finish_place xs cycle n) (Begin 0) there
          (passes_at_first (is_finish cycle n) xs (Begin 0) there) in
          let few_starts : count_by (is_start cycle n) xs ≤ 1 = one_start n in
          let few_finishes : count_by (is_finish cycle n) xs ≤ 1 = one_finish n in
          record { start = omega arith; finish = omega arith; order = o }
