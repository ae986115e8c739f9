-- Laws of `specs/Logged.antt`: the events so far when a ticket is drawn, an event or a late set is stored, and a cycle ends.
use Rattle.std.proofs.Common.{◌≡◌, ◌≢◌, ℕ, zero, suc, ◌+◌, ◌<◌, ◌≤◌, ◌⊎◌, inl, inr, ⊎_elim, Bool, true, false, cond, List}
use Rattle.std.proofs.Common.{[], ◌∷◌, ◌++◌, length, get_or, Some, sym, ap, ◌∙◌, subst, arith, length-append}
use mathlib.Core.Logic.{dite}
use native.Mathlib.Decide.{ℕ_discrete}
use Rattle.std.specs.Prelude.{count_by, slice_get, All, Contains}
use Rattle.std.specs.List.{position_or_len}
use Rattle.std.proofs.lemmas.List.Elements.{All-append}
use Rattle.pw_graph.specs.declared.event.Event.{Event}
use Rattle.pw_graph.specs.declared.event.Event.TheVariants.{Start, Finish}
use Rattle.pw_graph.specs.Dependencies.{Precedes}
use Rattle.pw_graph.specs.EventWords.{event_word_of}
use Rattle.pw_graph.specs.History.{is_start, is_finish, is_tick, IsLate}
use Rattle.pw_graph.specs.Layout.{event_count}
use Rattle.pw_graph.specs.Words.{finished_word}
use Rattle.board_rule.specs.Layout.{BoardLayout, nodes}
use Rattle.board_rule.specs.View.{put}
use Rattle.board_rule.specs.events.Logged.{IsSoFar, IsHeld, Tickets, Inside}
use Rattle.board_rule.specs.events.Records.{Records, Counts, Marks}
use Rattle.board_rule.proofs.start.SeatLemmas.{put_here, put_else}
use Rattle.board_rule.proofs.GrowingListLemmas.{count_more, first_within, first_at_end, first_stays, first_here, first_rises, get_front, get_end}
use Rattle.board_rule.proofs.GrowingListLemmas.{get_cases}

one_only : {X : Type 0} (P : X → Type 0) (x : X) → P x → All P (x ∷ [])
one_only P x h zero d l = h
one_only P x h (suc k) d l = absurd (omega arith)

module _ (p : BoardLayout) (c base : ℕ) (s t : Marks) (log : List Event) (r : Records) (a : Tickets p c base s log r) where
  -- a ticket is drawn for the event e
  pub tickets_drawn : (e : Event) → length log < event_count p.shape → base ≤ length log → ((k : ℕ) → IsHeld p s k → IsHeld p t k)
      → IsHeld p t (length log)
      → ((n : ℕ) → n < nodes p → t.counts.started n ≡ 1 → ((s.counts.started n ≡ 1) × (t.start n ≡ s.start n))
      ⊎ ((base < length log) × (t.start n ≡ length log) × (e ≡ Start c (p.number n))))
      → ((n : ℕ) → n < nodes p → t.counts.finished n ≡ 1 → ((s.counts.finished n ≡ 1) × (t.finish n ≡ s.finish n))
      ⊎ ((base < length log) × (t.finish n ≡ length log) × (e ≡ Finish c (p.number n))))
      → ((k : ℕ) (x : Event) → Contains t.tells (k, x) → (Contains s.tells (k, x)) ⊎ ((k ≡ length log) × (e ≡ x)))
      → Tickets p c base t (log ++ e ∷ []) (record r { ticket = suc r.ticket })
  tickets_drawn e room low held new starts finishes tells = record {
    drawn = ap suc a.drawn ∙ (let z = length-append log (e ∷ []) in omega arith);
    stored = λ k x h. ⊎_elim (λ (o : slice_get log k ≡ Some x). ⊎_elim inl (λ (z : (r.event k ≡ 0) × IsHeld p s k). inr (z.0, held k z.1))
        (a.stored k x o))
        (λ (o : (k ≡ length log) × (e ≡ x)). inr (
          a.unused k (let z = o.0 in omega arith) (let z = o.0 in omega arith),
          subst (IsHeld p t) (sym o.0) new,
        )) (get_cases log e k x h);
    unused = λ k h l. a.unused k (let z = length-append log (e ∷ []) in omega arith) l;
    starts_kept = λ n h one. ⊎_elim (λ (z : (s.counts.started n ≡ 1) × (t.start n ≡ s.start n)). let o = a.starts_kept n h z.0 in
        (subst (λ k. base < k) (sym z.1) o.0, get_front log (e ∷ []) (t.start n) (Start c (p.number n)) (ap (slice_get log) z.1 ∙ o.1)))
        (λ (z : (base < length log) × (t.start n ≡ length log) × (e ≡ Start c (p.number n))).
        (subst (λ k. base < k) (sym z.1) z.0, (λ i. slice_get (log ++ z.2 i ∷ []) (z.1 i)) ∙ get_end log (Start c (p.number n))))
        (starts n h one);
    finishes_kept = λ n h one. ⊎_elim (λ (z : (s.counts.finished n ≡ 1) × (t.finish n ≡ s.finish n)). let o = a.finishes_kept n h z.0 in
        (subst (λ k. base < k) (sym z.1) o.0, get_front log (e ∷ []) (t.finish n) (Finish c (p.number n)) (ap (slice_get log) z.1 ∙ o.1)))
        (λ (z : (base < length log) × (t.finish n ≡ length log) × (e ≡ Finish c (p.number n))).
        (subst (λ k. base < k) (sym z.1) z.0, (λ i. slice_get (log ++ z.2 i ∷ []) (z.1 i)) ∙ get_end log (Finish c (p.number n))))
        (finishes n h one);
    told_kept = λ k x h. ⊎_elim (λ (z : Contains s.tells (k, x)). let o = a.told_kept k x z in (o.0, get_front log (e ∷ []) k x o.1))
        (λ (z : (k ≡ length log) × (e ≡ x)). (let y = z.0 in omega arith, (λ i. slice_get (log ++ z.1 i ∷ []) (z.0 i)) ∙ get_end log x))
        (tells k x h);
  }

  -- the event x of the ticket k is stored
  pub tickets_stored : (k : ℕ) (x : Event) → slice_get log k ≡ Some x → k < length log → ((j : ℕ) → IsHeld p s j → j ≢ k → IsHeld p t j)
      → ((n : ℕ) → n < nodes p → t.counts.started n ≡ 1 → (s.counts.started n ≡ 1) × (t.start n ≡ s.start n))
      → ((n : ℕ) → n < nodes p → t.counts.finished n ≡ 1 → (s.counts.finished n ≡ 1) × (t.finish n ≡ s.finish n))
      → ((j : ℕ) (y : Event) → Contains t.tells (j, y) → Contains s.tells (j, y))
      → Tickets p c base t log (record r { event = put r.event k (event_word_of x) })
  tickets_stored k x at near held starts finishes tells = record {
    drawn = a.drawn;
    stored = λ j y h. dite (ℕ_discrete j k)
        (λ (e : j ≡ k). inl (ap (put r.event k (event_word_of x)) e ∙ put_here r.event k (event_word_of x)
        ∙ ap event_word_of (let same : Some x ≡ Some y = sym at ∙ ap (slice_get log) (sym e) ∙ h in let z : x ≡ y = (cc) in z)))
        (λ (o : j ≢ k). ⊎_elim (λ (z : r.event j ≡ event_word_of y). inl (put_else r.event k j (event_word_of x) o ∙ z))
        (λ (z : (r.event j ≡ 0) × IsHeld p s j). inr (put_else r.event k j (event_word_of x) o ∙ z.0, held j z.1 o)) (a.stored j y h));
    unused = λ j h l. put_else r.event k j (event_word_of x) (λ z. omega arith) ∙ a.unused j h l;
    starts_kept = λ n h one. let z = starts n h one in let o = a.starts_kept n h z.0 in
        (subst (λ j. base < j) (sym z.1) o.0, ap (slice_get log) z.1 ∙ o.1);
    finishes_kept = λ n h one. let z = finishes n h one in let o = a.finishes_kept n h z.0 in
        (subst (λ j. base < j) (sym z.1) o.0, ap (slice_get log) z.1 ∙ o.1);
    told_kept = λ j y h. a.told_kept j y (tells j y h);
  }

module _ (p : BoardLayout) (c late : ℕ) (k l : Counts) (xs : List Event) (a : Inside p c late k xs) where
  late_more : (e : Event) (n : ℕ) → IsLate p.shape xs c n → IsLate p.shape (xs ++ e ∷ []) c n
  late_more e n h = let less = h.2 in let most = within is_tick xs in let most' = within (is_finish c n) xs in
      let same = first_stays is_tick xs e (omega arith) in let more = first_rises (is_finish c n) xs e in (h.0, h.1, omega arith)
    where
      within : (f : Event → Bool) (xs : List Event) → position_or_len f xs ≤ length xs
      within f xs = dite (ℕ_discrete (count_by f xs) 0) (λ z. let a = first_at_end f xs z in omega arith)
          (λ z. let a = first_within f xs (omega arith) in omega arith)

  most : (f : Event → Bool) → position_or_len f xs ≤ length xs
  most f = dite (ℕ_discrete (count_by f xs) 0) (λ z. let a = first_at_end f xs z in omega arith)
      (λ z. let a = first_within f xs (omega arith) in omega arith)

  -- the event e is drawn between Begin and End
  pub inside_more : (e : Event) → IsSoFar p c late e
      → ((n : ℕ) → n < nodes p → l.started n ≡ k.started n + cond (is_start c (p.number n) e) 1 0)
      → ((n : ℕ) → n < nodes p → l.finished n ≡ k.finished n + cond (is_finish c (p.number n) e) 1 0)
      → cond {A = ℕ} l.checked 1 0 ≡ cond k.checked 1 0 + cond (is_tick e) 1 0
      → ((n : ℕ) → n < nodes p → l.finished n ≡ 1 → (k.finished n ≡ 1)
      ⊎ ((k.finished n ≡ 0) × (k.started n ≡ 1) × (is_finish c (p.number n) e ≡ true)))
      → ((n : ℕ) → n < nodes p → l.started n ≡ 1 → (k.started n ≡ 1)
      ⊎ ((k.started n ≡ 0) × ((m : ℕ) → m < nodes p → Precedes p.shape (p.number m) (p.number n) → k.finished m ≡ 1)))
      → (l.checked ≡ true → (k.checked ≡ true) ⊎ ((k.checked ≡ false) × (is_tick e ≡ true) × (k.started p.driver ≡ 0)
      × (is_start c (p.number p.driver) e ≡ false)))
      → p.driver < nodes p → ((l.sees ≡ k.sees) ⊎ (l.sees ≡ []))
      → Inside p c late l (xs ++ e ∷ [])
  inside_more e of starts finishes ticks ends begins checks hd sees = record {
    only = All-append (IsSoFar p c late) xs (e ∷ []) a.only (one_only (IsSoFar p c late) e of);
    starts = λ n h. count_more (is_start c (p.number n)) xs e ∙ ap (λ z. z + cond (is_start c (p.number n) e) 1 0) (a.starts n h)
        ∙ sym (starts n h);
    finishes = λ n h. count_more (is_finish c (p.number n)) xs e ∙ ap (λ z. z + cond (is_finish c (p.number n) e) 1 0) (a.finishes n h)
        ∙ sym (finishes n h);
    ticks = count_more is_tick xs e ∙ ap (λ z. z + cond (is_tick e) 1 0) a.ticks ∙ sym ticks;
    order = λ n h one. let f : Event → Bool = is_start c (p.number n) in let g : Event → Bool = is_finish c (p.number n) in ⊎_elim
        (λ (z : k.finished n ≡ 1). let o = a.order n h z in let m = most g in let same = first_stays f xs e (omega arith) in
        let more = first_rises g xs e in omega arith)
        (λ (z : (k.finished n ≡ 0) × (k.started n ≡ 1) × (is_finish c (p.number n) e ≡ true)). let had = a.starts n h in let one' = z.1 in
        let in' = first_within f xs (omega arith) in let same = first_stays f xs e in' in
        let none = first_at_end g xs (a.finishes n h ∙ z.0) in let here = first_here g xs e none z.2 in omega arith) (ends n h one);
    waits = λ m n hm hn before one. let f : Event → Bool = is_finish c (p.number m) in let g : Event → Bool = is_start c (p.number n) in
        ⊎_elim
        (λ (z : k.started n ≡ 1). let o = a.waits m n hm hn before z in let most' = most g in let same = first_stays f xs e (omega arith) in
        let more = first_rises g xs e in omega arith)
        (λ (z : (k.started n ≡ 0) × ((m : ℕ) → m < nodes p → Precedes p.shape (p.number m) (p.number n) → k.finished m ≡ 1)). let had =
        a.finishes m hm in let done = z.1 m hm before in let in' = first_within f xs (omega arith) in
        let same = first_stays f xs e in' in
        let none = first_at_end g xs (a.starts n hn ∙ z.0) in let more = first_rises g xs e in omega arith) (begins n hn one);
    tick = λ one. let g : Event → Bool = is_start c (p.number p.driver) in ⊎_elim
        (λ (z : k.checked ≡ true). let o = a.tick z in let most' = most g in let same = first_stays is_tick xs e (omega arith) in
        let more = first_rises g xs e in omega arith)
        (λ (z : (k.checked ≡ false) × (is_tick e ≡ true) × (k.started p.driver ≡ 0) × (is_start c (p.number p.driver) e ≡ false)).
        let none = first_at_end is_tick xs (a.ticks ∙ ap (λ b. cond {A = ℕ} b 1 0) z.0) in let here = first_here is_tick xs e none z.1 in
        let count : count_by g (xs ++ e ∷ []) ≡ 0 = count_more g xs e ∙ (λ i. (a.starts p.driver hd ∙ z.2) i + cond (z.3 i) 1 0) in
        let end = first_at_end g (xs ++ e ∷ []) count in let long = length-append xs (e ∷ []) in omega arith) (checks one);
    late_ones = λ n h b. late_more e n (a.late_ones n h b);
    seen = ⊎_elim (λ (z : l.sees ≡ k.sees). subst (All (λ f. ¬ (f.word ≡ finished_word c) → IsLate p.shape (xs ++ e ∷ []) c f.node))
        (sym z) (λ i d h o. late_more e (get_or k.sees i d).node (a.seen i d h o)))
        (λ (z : l.sees ≡ []). subst (All (λ f. ¬ (f.word ≡ finished_word c) → IsLate p.shape (xs ++ e ∷ []) c f.node)) (sym z)
        (λ i d h o. absurd (omega arith))) sees;
  }
