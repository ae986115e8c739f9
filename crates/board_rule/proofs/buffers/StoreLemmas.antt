-- Laws of `specs/Logged.antt`: an event of a node is stored, and the steps of the driver's seat on the frame of a cycle, with no phase in
-- it.
use Rattle.std.proofs.Common.{◌≡◌, ◌≢◌, ℕ, suc, ◌+◌, ◌-◌, ◌<◌, ◌≤◌, inl, inr, ⊎_elim, Bool, true, false, true≢false, cond}
use Rattle.std.proofs.Common.{List, [], ◌∷◌, ◌++◌, map, length, Some, refl, sym, ap, ◌∙◌, subst, arith, append_assoc, append-nil}
use Rattle.std.proofs.Common.{length-append}
use Rattle.std.specs.Prelude.{slice_get, All, Contains, IsBitSet}
use Rattle.std.proofs.lemmas.Option.{slice_get_within}
use Rattle.pw_graph.specs.declared.event.Event.{Event}
use Rattle.pw_graph.specs.declared.event.Event.TheVariants.{Begin, Tick, End}
use Rattle.pw_graph.specs.EventWords.{event_word_of}
use Rattle.pw_graph.specs.History.{IsLate}
use Rattle.pw_graph.specs.Layout.{event_count}
use Rattle.pw_graph.specs.Words.{finished_word}
use Rattle.board_rule.specs.Layout.{BoardLayout, IsSound, nodes, first, last}
use Rattle.board_rule.specs.View.{put}
use Rattle.board_rule.specs.events.EventSteps.{late_of}
use Rattle.board_rule.specs.events.Logged.{IsHeld, Tickets, Earlier, Inside}
use Rattle.board_rule.specs.events.Records.{Records, Marks, so_far}
use Rattle.board_rule.proofs.events.LogLemmas.{tickets_drawn, tickets_stored, inside_more}
use Rattle.board_rule.proofs.events.LateLemmas.{told_late, tickets_late, earlier_late, inside_late, late_bits}
use Rattle.board_rule.proofs.events.LegalCycleLemmas.{earlier_ends}
use Rattle.board_rule.proofs.start.SeatLemmas.{put_here}
use Rattle.board_rule.proofs.events.DrawLemmas.{Logs, none_in, first_in, only_in}

-- what stays of the nodes in a step of the driver's seat, or in a store
pub record SameNodes (s u : Marks) : Type 0 where
  pub started : (n : ℕ) → u.counts.started n ≡ s.counts.started n
  pub finished : (n : ℕ) → u.counts.finished n ≡ s.counts.finished n
  pub start : (n : ℕ) → u.start n ≡ s.start n
  pub finish : (n : ℕ) → u.finish n ≡ s.finish n

-- and of which it is in
abbrev pub FrameOf : Marks → Bool → Bool → Type 0
FrameOf s b e = (s.begun ≡ b) × (s.ending ≡ e)

module _ (p : BoardLayout) (c late : ℕ) (past xs : List Event) (s u : Marks) (r : Records) (a : Logs p c late past xs s r)
    (nodes_same : SameNodes s u) where
  abbrev log : List Event
  log = past ++ so_far s c xs

  frame : (v : Marks) (b e : Bool) → FrameOf v b e → so_far v c xs ≡ cond b (cond e (Begin c ∷ (xs ++ End c ∷ [])) (Begin c ∷ xs)) []
  frame v b e f = λ i. cond (f.0 i) (cond (f.1 i) (Begin c ∷ (xs ++ End c ∷ [])) (Begin c ∷ xs)) []

  low : length past ≤ length log
  low = let z = length-append past (so_far s c xs) in omega arith

  abbrev counts_is : s.counts.checked ≡ u.counts.checked → s.counts.sees ≡ u.counts.sees → s.counts ≡ u.counts
  counts_is checked sees = λ i. record {
    started = λ n. sym (nodes_same.started n) i;
    finished = λ n. sym (nodes_same.finished n) i;
    checked = checked i;
    sees = sees i;
  }

  earlier_same : (k : ℕ) (event : ℕ → ℕ) → Earlier p c late past (record r { ticket = k; event = event })
  earlier_same k event = let e = a.earlier in record
      { legal = e.legal; before = e.before; lates = e.lates; late_now = e.late_now; late_later = e.late_later }

  -- the event x of the ticket k is stored, which nobody holds from now on
  pub event_stored : (k : ℕ) (x : Event) → slice_get log k ≡ Some x → (b e : Bool) → FrameOf s b e → FrameOf u b e
      → u.counts.checked ≡ s.counts.checked → u.counts.sees ≡ s.counts.sees
      → ((j : ℕ) → IsHeld p s j → j ≢ k → IsHeld p u j) → ((j : ℕ) (y : Event) → Contains u.tells (j, y) → Contains s.tells (j, y))
      → Logs p c late past xs u (record r { event = put r.event k (event_word_of x) })
  event_stored k x at b e was is checked sees held tells = record {
    tickets = subst (λ l. Tickets p c (length past) u l (record r { event = put r.event k (event_word_of x) }))
        (ap (λ ys. past ++ ys) (frame s b e was ∙ sym (frame u b e is)))
        (tickets_stored p c (length past) s u log r a.tickets k x at (slice_get_within log k x at) held
        (λ n h one. (sym (nodes_same.started n) ∙ one, nodes_same.start n))
        (λ n h one. (sym (nodes_same.finished n) ∙ one, nodes_same.finish n)) tells);
    earlier = earlier_same r.ticket (put r.event k (event_word_of x));
    inside = subst (λ k. Inside p c late k xs) (counts_is (sym checked) (sym sees)) a.inside;
  }

  held_on : (t : ℕ) (x : Event) → ((n : ℕ) → u.holds n ≡ s.holds n) → s.tells ≡ [] → (j : ℕ) → IsHeld p s j → IsHeld p u j
  held_on t x holds none j h = ⊎_elim (λ (z : (n : ℕ) × (n < nodes p) × Contains (s.holds n) j). inl
      (z.0, z.1, subst (λ ks. Contains ks j) (sym (holds z.0)) z.2))
      (λ (z : (e : Event) × Contains s.tells (j, e)). absurd (none_in (j, z.0) (subst (λ ks. Contains ks (j, z.0)) none z.1))) h

  -- the ticket t is drawn for the event x of the frame: Begin, a Tick, or End
  frame_drawn : (t : ℕ) (x : Event) → ((n : ℕ) → u.holds n ≡ s.holds n) → s.tells ≡ [] → u.tells ≡ (t, x) ∷ [] → t ≡ r.ticket
      → length log < event_count p.shape → Tickets p c (length past) u (log ++ x ∷ []) (record r { ticket = suc r.ticket })
  frame_drawn t x holds none tells is room = let at_end : t ≡ length log = is ∙ a.tickets.drawn in
      tickets_drawn p c (length past) s u log r a.tickets x room low (held_on t x holds none)
      (inr (x, subst (λ ks. Contains ks (length log, x)) (sym (tells ∙ ap (λ k. (k, x) ∷ []) at_end)) (first_in (length log, x))))
      (λ n h one. inl (sym (nodes_same.started n) ∙ one, nodes_same.start n))
      (λ n h one. inl (sym (nodes_same.finished n) ∙ one, nodes_same.finish n))
      (λ k y h. let e = only_in (t, x) (k, y) (subst (λ ks. Contains ks (k, y)) tells h) in
      inr (sym (ap (λ (z : ℕ × Event). z.0) e) ∙ at_end, ap (λ (z : ℕ × Event). z.1) e))

  pub begin_drawn : (t : ℕ) → FrameOf s false false → FrameOf u true false → xs ≡ [] → u.counts.checked ≡ s.counts.checked
      → u.counts.sees ≡ s.counts.sees → ((n : ℕ) → u.holds n ≡ s.holds n) → s.tells ≡ [] → u.tells ≡ (t, Begin c) ∷ [] → t ≡ r.ticket
      → length log < event_count p.shape
      → Logs p c late past xs u (record r { ticket = suc r.ticket })
  begin_drawn t was is empty checked sees holds none tells at room = record {
    tickets = subst (λ l. Tickets p c (length past) u l (record r { ticket = suc r.ticket }))
        (ap (λ ys. (past ++ ys) ++ Begin c ∷ []) (frame s false false was) ∙ ap (λ ys. ys ++ Begin c ∷ []) (append-nil past)
        ∙ ap (λ ys. past ++ Begin c ∷ ys) (sym empty) ∙ ap (λ ys. past ++ ys) (sym (frame u true false is)))
        (frame_drawn t (Begin c) holds none tells at room);
    earlier = earlier_same (suc r.ticket) r.event;
    inside = subst (λ k. Inside p c late k xs) (counts_is (sym checked) (sym sees)) a.inside;
  }

  pub end_drawn : (t : ℕ) → FrameOf s true false → FrameOf u true true → u.counts.checked ≡ s.counts.checked → u.counts.sees ≡ s.counts.sees
      → ((n : ℕ) → u.holds n ≡ s.holds n) → s.tells ≡ [] → u.tells ≡ (t, End c) ∷ [] → t ≡ r.ticket → length log < event_count p.shape
      → Logs p c late past xs u (record r { ticket = suc r.ticket })
  end_drawn t was is checked sees holds none tells at room = record {
    tickets = subst (λ l. Tickets p c (length past) u l (record r { ticket = suc r.ticket }))
        (ap (λ ys. (past ++ ys) ++ End c ∷ []) (frame s true false was) ∙ append_assoc past (Begin c ∷ xs) (End c ∷ [])
        ∙ ap (λ ys. past ++ ys) (sym (frame u true true is)))
        (frame_drawn t (End c) holds none tells at room);
    earlier = earlier_same (suc r.ticket) r.event;
    inside = subst (λ k. Inside p c late k xs) (counts_is (sym checked) (sym sees)) a.inside;
  }

  pub tick_drawn : IsSound p → (t : ℕ) → FrameOf s true false → FrameOf u true false → s.counts.checked ≡ false → u.counts.checked ≡ true
      → u.counts.sees ≡ [] → s.counts.started p.driver ≡ 0 → ((n : ℕ) → u.holds n ≡ s.holds n) → s.tells ≡ []
      → u.tells ≡ (t, Tick c late) ∷ [] → t ≡ r.ticket → length log < event_count p.shape
      → Logs p c late past (xs ++ Tick c late ∷ []) u (record r { ticket = suc r.ticket })
  tick_drawn sound t was is unchecked checked sees idle holds none tells at room = record {
    tickets = subst (λ l. Tickets p c (length past) u l (record r { ticket = suc r.ticket }))
        (ap (λ ys. (past ++ ys) ++ Tick c late ∷ []) (frame s true false was) ∙ append_assoc past (Begin c ∷ xs) (Tick c late ∷ [])
        ∙ ap (λ ys. past ++ ys) (sym (λ i. cond (is.0 i)
        (cond (is.1 i) (Begin c ∷ ((xs ++ Tick c late ∷ []) ++ End c ∷ [])) (Begin c ∷ (xs ++ Tick c late ∷ []))) [])))
        (frame_drawn t (Tick c late) holds none tells at room);
    earlier = earlier_same (suc r.ticket) r.event;
    inside = inside_more p c late s.counts u.counts xs a.inside (Tick c late) (refl, refl) (λ n h. nodes_same.started n ∙ (omega arith))
        (λ n h. nodes_same.finished n ∙ (omega arith))
        (ap (λ b. cond {A = ℕ} b 1 0) checked ∙ sym (ap (λ b. cond {A = ℕ} b 1 0 + 1) unchecked))
        (λ n h one. inl (sym (nodes_same.finished n) ∙ one)) (λ n h one. inl (sym (nodes_same.started n) ∙ one))
        (λ _. inr (unchecked, refl, idle, refl)) sound.driver_in (inr sees);
  }

  -- the late set of the check is stored
  pub late_set : (set t : ℕ) → first p ≤ c → FrameOf s true false → FrameOf u true false → u.counts.checked ≡ s.counts.checked
      → u.counts.sees ≡ [] → ((n : ℕ) → u.holds n ≡ s.holds n) → s.tells ≡ (t, Tick c late) ∷ [] → u.tells ≡ (t, Tick c set) ∷ []
      → set ≡ late_of c s.counts.sees
      → Logs p c set past (map (told_late set) xs) u (record r { late = put r.late (c - first p) set })
  late_set set t low' was is checked sees holds told tells bits = record {
    tickets = subst (λ l. Tickets p c (length past) u l (record r { late = put r.late (c - first p) set }))
        (ap (λ ys. past ++ ys) (sym (λ i. cond (is.0 i)
        (cond (is.1 i) (Begin c ∷ (map (told_late set) xs ++ End c ∷ [])) (Begin c ∷ map (told_late set) xs)) [])))
        (tickets_late p c set s u past (Begin c ∷ xs) r (put r.late (c - first p) set)
        (subst (λ l. Tickets p c (length past) s (past ++ l) r) (frame s true false was) a.tickets)
        held (λ n h one. (sym (nodes_same.started n) ∙ one, nodes_same.start n))
        (λ n h one. (sym (nodes_same.finished n) ∙ one, nodes_same.finish n))
        (λ k y h. let e = only_in (t, Tick c set) (k, y) (subst (λ ks. Contains ks (k, y)) tells h) in (
          Tick c late,
          subst (λ (z : ℕ × List (ℕ × Event)). Contains z.1 (z.0, Tick c late))
              (λ i. (ap (λ (z : ℕ × Event). z.0) e i, sym told i)) (first_in (t, Tick c late)),
          ap (λ (z : ℕ × Event). z.1) e,
        )));
    earlier = earlier_late p c late set past r low' a.earlier;
    inside = inside_late p c late set s.counts u.counts xs a.inside nodes_same.started nodes_same.finished checked sees
        (λ n h. late_bits c (IsLate p.shape xs c) s.counts.sees a.inside.seen n (subst (λ z. IsBitSet z n) bits h));
  }
    where
      held : (k : ℕ) → IsHeld p s k → IsHeld p u k
      held k = λ h. ⊎_elim (λ (z : (n : ℕ) × (n < nodes p) × Contains (s.holds n) k). inl
          (z.0, z.1, subst (λ ks. Contains ks k) (sym (holds z.0)) z.2))
          (λ (z : (e : Event) × Contains s.tells (k, e)). let e =
          only_in (t, Tick c late) (k, z.0) (subst (λ ks. Contains ks (k, z.0)) told z.1) in
          inr (
            Tick c set,
            subst (λ (y : ℕ × List (ℕ × Event)). Contains y.1 (y.0, Tick c set))
                (λ i. (ap (λ (y : ℕ × Event). y.0) e i, sym tells i)) (first_in (t, Tick c set)),
          )) h

-- the End of a cycle is stored, in which all nodes have run: the next one begins with nothing drawn
pub ended : (p : BoardLayout) (c late : ℕ) (past xs : List Event) (s u : Marks) (r : Records) → Logs p c late past xs s r → IsSound p → first p ≤ c
    → c < last p → FrameOf s true true → u.begun ≡ false → (t : ℕ) → s.tells ≡ (t, End c) ∷ []
    → ((n : ℕ) → n < nodes p → s.holds n ≡ []) → ((n : ℕ) → n < nodes p → s.counts.started n ≡ 1)
    → ((n : ℕ) → n < nodes p → s.counts.finished n ≡ 1)
    → ((n : ℕ) → n < nodes p → u.counts.started n ≡ 0) → ((n : ℕ) → n < nodes p → u.counts.finished n ≡ 0) → u.counts.checked ≡ false
    → u.counts.sees ≡ [] → u.tells ≡ []
    → Logs p (c + 1) 0 (past ++ so_far s c xs) [] u (record r { event = put r.event t (event_word_of (End c)) })
ended p c late past xs s u r a sound low high was is t tells idle started finished none none' unchecked unseen silent =
    let log : List Event = past ++ so_far s c xs in
    let full : so_far s c xs ≡ Begin c ∷ (xs ++ End c ∷ []) =
    λ i. cond (was.0 i) (cond (was.1 i) (Begin c ∷ (xs ++ End c ∷ [])) (Begin c ∷ xs)) [] in
    let empty : log ++ so_far u (c + 1) [] ≡ log = ap
    (λ b. log ++ cond b (cond u.ending (Begin (c + 1) ∷ End (c + 1) ∷ []) (Begin (c + 1) ∷ [])) []) is ∙ append-nil log in
    let k = a.tickets in let there = k.told_kept t (End c) (subst (λ ks. Contains ks (t, End c)) (sym tells) (first_in (t, End c))) in
    record {
      tickets = subst (λ l. Tickets p (c + 1) (length log) u l (record r { event = put r.event t (event_word_of (End c)) })) (sym empty)
          (next log k (slice_get_within log t (End c) there.1) there.1);
      earlier = subst (λ ys. Earlier p (c + 1) 0 (past ++ ys) (record r { event = put r.event t (event_word_of (End c)) })) (sym full)
          (earlier_ends p sound c late s.counts xs a.inside started finished past r
          (put r.event t (event_word_of (End c))) low high a.earlier);
      inside = record {
        only = λ i d h. absurd (omega arith);
        starts = λ n h. sym (none n h);
        finishes = λ n h. sym (none' n h);
        ticks = sym (ap (λ b. cond {A = ℕ} b 1 0) unchecked);
        order = λ n h one. absurd (let z = none' n h in omega arith);
        waits = λ m n hm hn before one. absurd (let z = none n hn in omega arith);
        tick = λ one. absurd (true≢false (sym one ∙ unchecked));
        late_ones = λ n h b. absurd (nothing n b);
        seen = subst (All (λ f. ¬ (f.word ≡ finished_word (c + 1)) → IsLate p.shape [] (c + 1) f.node)) (sym unseen)
            (λ i d h. absurd (omega arith));
      };
    }
  where
    nothing : (n : ℕ) → IsBitSet 0 n → ⊥
    nothing n b = late_bits c (λ _. ⊥) [] (λ i d h. absurd (omega arith)) n b

    only_t : (j : ℕ) → IsHeld p s j → j ≡ t
    only_t j = λ h. ⊎_elim (λ (z : (n : ℕ) × (n < nodes p) × Contains (s.holds n) j). absurd
        (none_in j (subst (λ ks. Contains ks j) (idle z.0 z.1) z.2)))
        (λ (z : (e : Event) × Contains s.tells (j, e)). sym
        (ap (λ (y : ℕ × Event). y.0) (only_in (t, End c) (j, z.0) (subst (λ ks. Contains ks (j, z.0)) tells z.1)))) h

    next : (log : List Event) → Tickets p c (length past) s log r → t < length log → slice_get log t ≡ Some (End c)
        → Tickets p (c + 1) (length log) u log (record r { event = put r.event t (event_word_of (End c)) })
    next log k near at = let stored = tickets_stored p c (length past) s s log r k t (End c) at near (λ j h o. h) (λ n h one. (one, refl))
        (λ n h one. (one, refl)) (λ j y h. h) in record {
          drawn = stored.drawn;
          stored = λ j y h. ⊎_elim inl (λ (z : (put r.event t (event_word_of (End c)) j ≡ 0) × IsHeld p s j). inl
              (again j y (only_t j z.1) h stored)) (stored.stored j y h);
          unused = stored.unused;
          starts_kept = λ n h one. absurd (let z = none n h in omega arith);
          finishes_kept = λ n h one. absurd (let z = none' n h in omega arith);
          told_kept = λ j y h. absurd (none_in (j, y) (subst (λ ks. Contains ks (j, y)) silent h));
        }
      where
        again : (j : ℕ) (y : Event) → j ≡ t → slice_get log j ≡ Some y
            → Tickets p c (length past) s log (record r { event = put r.event t (event_word_of (End c)) })
            → put r.event t (event_word_of (End c)) j ≡ event_word_of y
        again j y e h k = ap (put r.event t (event_word_of (End c))) e ∙ put_here r.event t (event_word_of (End c))
            ∙ ap event_word_of (let same : Some (let x : Event = End c in x) ≡ Some y = sym at ∙ ap (slice_get log) (sym e) ∙ h in
            let z : (let x : Event = End c in x) ≡ y = (cc) in z)
