-- Laws of `specs/EventRule.antt`: the driver's seat stores an event or a late set, ends a cycle, and looks at a status.
use Rattle.std.proofs.Common.{◌≡◌, ◌≢◌, ℕ, ◌+◌, ◌-◌, ◌<◌, ◌≤◌, ◌&&◌, inl, ⊎_elim, Bool, true, false, true≢false, cond, eqb, List}
use Rattle.std.proofs.Common.{[], ◌∷◌, ◌++◌, map, length, set, get_or, Some, refl, sym, ap, ◌∙◌, subst, arith, eq-eqb, ne_eqb}
use Rattle.std.proofs.Common.{get_or-set_other}
use mathlib.Core.Logic.{dite}
use native.Mathlib.Decide.{ℕ_discrete}
use Rattle.std.specs.Prelude.{slice_get, Contains, count_by}
use Rattle.std.proofs.lemmas.List.Sums.{sum_by-append, sum_by-cons}
use Rattle.pw_graph.specs.declared.event.Event.{Event}
use Rattle.pw_graph.specs.declared.event.Event.TheVariants.{Begin, Tick, End}
use Rattle.pw_graph.specs.EventWords.{event_word_of}
use Rattle.pw_graph.specs.History.{is_tick, is_finish, IsLate}
use Rattle.pw_graph.specs.Layout.{event_place, late_place, status_place}
use Rattle.pw_graph.specs.Words.{status_word_of, finished_word}
use Rattle.board_rule.specs.declared.view.Phase.{Phase}
use Rattle.board_rule.specs.declared.view.Phase.TheVariants.{Idle, Awake, StartDrawn, Running, Done, FinishDrawn, Telling}
use Rattle.board_rule.specs.declared.view.DriverPhase.{DriverPhase}
use Rattle.board_rule.specs.declared.view.DriverPhase.TheVariants as drives
use Rattle.board_rule.specs.declared.view.NodeView.{NodeView}
use Rattle.board_rule.specs.declared.view.DriverView.{DriverView}
use Rattle.board_rule.specs.declared.view.Found.{Found}
use Rattle.board_rule.specs.Layout.{BoardLayout, IsSound, nodes, first, last}
use Rattle.board_rule.specs.activation.Phases.{phase_stage, is_resetting, drive_stage, PhaseOk}
use Rattle.board_rule.specs.View.{Whole, with_lead}
use Rattle.board_rule.specs.events.Marks.{phase_started, phase_finished, phase_holds, drive_started, drive_finished, drive_holds, drive_tells}
use Rattle.board_rule.specs.events.Marks.{drive_sees, is_begun, is_ending, is_checking}
use Rattle.board_rule.specs.events.LateSets.{is_looking}
use Rattle.board_rule.specs.activation.ActivationRule.{Activations, progress}
use Rattle.board_rule.specs.events.EventSteps.{late_of, late_kept}
use Rattle.board_rule.specs.events.EventRule.{Events, Marks, Inside, so_far, marks, counts, records, lead_drawn}
use Rattle.board_rule.proofs.events.TickLemmas.{ticks_stay, ticks_past, none_looking, ticks_end}
use Rattle.board_rule.proofs.events.DrawLemmas.{Logs, none_in, member}
use Rattle.board_rule.proofs.buffers.StoreLemmas.{event_stored, late_set, ended}
use Rattle.board_rule.proofs.events.LateLemmas.{told_late, inside_looks}
use Rattle.board_rule.proofs.GrowingListLemmas.{first_within, first_at_end}
use Rattle.board_rule.proofs.events.MarkLemmas.{words_stored, words_late, node_was, lead_here, lead_else}
use Rattle.board_rule.proofs.events.TicketLemmas.{logs_of, count_lead}
use Rattle.board_rule.proofs.activation.FollowerLemmas.{words_run, stage_at}
use Rattle.board_rule.proofs.activation.CycleLemmas.{all_done}
use Rattle.board_rule.proofs.LeadEventsLemmas.{after, lead_nodes, lead_holds}

-- a node that is not past its work has drawn no Finish
unfinished : (n c next : ℕ) (f : Phase) → PhaseOk n c next f → (phase_stage (eqb next c) f ≡ 2 → ⊥)
    → cond (eqb next c) (phase_finished f) 1 ≡ 0
unfinished n c next Idle ok o = by (eqb next c) o
  where
    by : (b : Bool) → (cond {A = ℕ} b 0 2 ≡ 2 → ⊥) → cond {A = ℕ} b 0 1 ≡ 0
    by true h = refl
    by false h = absurd (h refl)
unfinished n c next Awake ok o = ap (λ b. cond {A = ℕ} b 0 1) (eq-eqb next c ok)
unfinished n c next StartDrawn ok o = ap (λ b. cond {A = ℕ} b 0 1) (eq-eqb next c ok)
unfinished n c next Running ok o = ap (λ b. cond {A = ℕ} b 0 1) (eq-eqb next c ok)
unfinished n c next Done ok o = absurd (o refl)
unfinished n c next FinishDrawn ok o = absurd (o refl)
unfinished n c next (Telling i d) ok o = absurd (o refl)

module _ (p : BoardLayout) where
  module _ (g : Whole) (ws : List ℕ) (sound : IsSound p) (a : Activations p g ws) (e : Events p g ws) where
    -- the driver's seat stores an event of its cycle, but the End
    pub events_lead_stored : (d h : DriverPhase) (k : ℕ) (x : Event) → g.lead.drive ≡ d → event_place p.shape k < length ws
        → slice_get (g.past ++ so_far (marks p g) g.lead.cycle g.inside) k ≡ Some x
        → drive_started h ≡ drive_started d → drive_finished h ≡ drive_finished d → is_begun d ≡ true → is_ending d ≡ false
        → is_begun h ≡ true → is_ending h ≡ false → is_checking h ≡ false → is_looking h ≡ is_looking d → drive_sees g.looks h ≡ drive_sees g.looks d
        → ((j : ℕ) → Contains (drive_holds g.lead d) j → j ≡ k)
        → ((j : ℕ) (y : Event) → Contains (drive_tells g.lead g.late d) (j, y) → j ≡ k)
        → drive_tells (record g.lead { drive = h }) g.late h ≡ [] → lead_drawn g.lead ≤ lead_drawn (record g.lead { drive = h })
        → Events p (record (with_lead g (record g.lead { drive = h })) { inside = g.inside; looks = g.looks })
        (set ws (event_place p.shape k) (event_word_of x))
    events_lead_stored d h k x is room at started finished begun unended goes_on stays unchecking looking sees holds tells silent more =
        let u : Marks = marks p (after p g (record g.lead { drive = h }) g.looks g.inside g.late) in
        let logs = words_stored p ws (event_word_of x) g.lead.cycle g.late g.past g.inside u k a.later a.early room
        (event_stored p g.lead.cycle g.late g.past g.inside (marks p g) u (records p ws) (logs_of p g ws e)
        (lead_nodes p g (record g.lead { drive = h }) g.looks g.inside g.late (started ∙ sym (ap drive_started is))
        (finished ∙ sym (ap drive_finished is)) refl refl) k x at true false (ap is_begun is ∙ begun, ap is_ending is ∙ unended)
        (goes_on, stays) refl (sees ∙ sym (ap (drive_sees g.looks) is))
        (λ j held other. ⊎_elim (λ (z : (n : ℕ) × (n < nodes p) × Contains ((marks p g).holds n) j). dite (ℕ_discrete z.0 p.driver)
        (λ (q : z.0 ≡ p.driver). absurd (other (holds j
        (subst (λ ks. Contains ks j) (ap (marks p g).holds q
        ∙ lead_here p g (drive_holds g.lead g.lead.drive) (λ z. phase_holds z z.phase) ∙ ap (drive_holds g.lead) is) z.2))))
        (λ (q : z.0 ≢ p.driver). inl (
          z.0,
          z.1,
          subst (λ ks. Contains ks j)
              (lead_else p g (drive_holds g.lead g.lead.drive) (drive_holds (record g.lead { drive = h }) h)
              (λ z. phase_holds z z.phase) z.0 q) z.2,
        )))
        (λ (z : (y : Event) × Contains (marks p g).tells (j, y)). absurd
        (other (tells j z.0 (subst (λ ks. Contains ks (j, z.0)) (ap (drive_tells g.lead g.late) is) z.1)))) held)
        (λ j y q. absurd (none_in (j, y) (subst (λ ks. Contains ks (j, y)) silent q)))) in record {
          count = let b = count_lead p g (get_or ws 0 0) 0 (record g.lead { drive = h }) (omega arith) e.count in
              let w = get_or-set_other ws (event_place p.shape k) 0 (event_word_of x) 0 (λ z. omega arith) in omega arith;
          checks = e.checks;
          lates = ticks_stay p g e.lates d (record g.lead { drive = h }) is looking refl refl refl;
          checking = λ z. absurd (true≢false (sym z ∙ unchecking));
          fresh = λ z. absurd (true≢false (sym goes_on ∙ z));
          tickets = logs.tickets;
          earlier = logs.earlier;
          inside = logs.inside;
        }

    abbrev stored : DriverView
    stored = late_kept g.lead g.looks

    -- the late set of a check is stored
    pub events_late : (x : ℕ) → g.lead.drive ≡ drives.Checking → g.lead.cycle < last p
        → late_place p.shape (g.lead.cycle - first p) < length ws → x ≡ late_of g.lead.cycle g.looks → lead_drawn g.lead ≤ lead_drawn stored
        → Events p (record (with_lead g stored) { inside = map (told_late x) g.inside; late = x; looks = g.looks })
        (set ws (late_place p.shape (g.lead.cycle - first p)) x)
    events_late x d within room bits more = let c : ℕ = g.lead.cycle in let low = a.later in
        let xs : List Event = map (told_late x) g.inside in
        let logs = subst (Logs p c x g.past xs (marks p (after p g stored g.looks xs x)))
        (sym (words_late p ws x (c - first p) (omega arith) room))
        (late_set p c g.late g.past g.inside (marks p g) (marks p (after p g stored g.looks xs x)) (records p ws) (logs_of p g ws e)
        (lead_nodes p g stored g.looks xs x (sym (ap drive_started d)) (sym (ap drive_finished d)) refl refl) x g.lead.ticket low
        (ap is_begun d, ap is_ending d) (refl, refl) refl refl
        (lead_holds p g stored g.looks xs x (sym (ap (drive_holds g.lead) d))) (ap (drive_tells g.lead g.late) d) refl
        (bits ∙ ap (late_of c) (sym (ap (drive_sees g.looks) d)))) in record {
          count = let b = count_lead p g (get_or ws 0 0) 0 stored (omega arith) e.count in
              let w = get_or-set_other ws (late_place p.shape (c - first p)) 0 x 0 (λ z. omega arith) in omega arith;
          checks = e.checks;
          lates = (λ j. ticks_past p g e.lates (none_looking p g e.lates (ap is_looking d)) j
              ++ cond (e.checking (ap is_checking d) j && true) (Tick c (bits j) ∷ []) []);
          checking = λ _. e.checking (ap is_checking d);
          fresh = λ z. absurd (true≢false z);
          tickets = logs.tickets;
          earlier = logs.earlier;
          inside = logs.inside;
        }

    -- a status is loaded
    pub events_looked : (n found : ℕ) → g.lead.drive ≡ drives.Checking → (is_resetting g.lead.drive ≡ true → ⊥) → n < nodes p → n ≢ p.driver
        → found ≡ get_or ws (status_place p.shape n) 0 → Events p
        (record g { looks = record { node = p.number n; word = found } ∷ g.looks }) ws
    events_looked n found d runs_on inside follows is = let c : ℕ = g.lead.cycle in let i = e.inside in
        let run = words_run p g g.lead.drive ws runs_on a.laid in let o = run.node n inside in
        let late : ¬ (found ≡ finished_word c) → IsLate p.shape g.inside c (p.number n) = λ other.
        let z : (counts p g).finished n ≡ 0 = node_was p g (λ (z : NodeView). cond (eqb z.next c) (phase_finished z.phase) 1)
        (drive_finished g.lead.drive) n follows
        ∙ unfinished (length (p.targets n)) c (g.nodes n).next (g.nodes n).phase (a.followers n inside follows)
        (λ two. other (is ∙ o.status_is ∙ ap (λ k. status_word_of k c)
        (kind_is o.kind (progress p g).stage n (stage_at p g n follows ∙ two) o.kinds o.asleep o.awake))) in
        let ends = first_at_end (is_finish c (p.number n)) g.inside (i.finishes n inside ∙ z) in
        let one : count_by is_tick g.inside ≡ 1 = i.ticks ∙ ap (λ b. cond {A = ℕ} b 1 0) (e.checking (ap is_checking d)) in
        let near = first_within is_tick g.inside (omega arith) in (
          member p sound n inside,
          λ q. follows (sym (sound.at n inside) ∙ ap p.index (q ∙ sym sound.names_driver)
              ∙ sound.at p.driver sound.driver_in),
          omega arith,
        ) in
        let more = inside_looks p c g.late (counts p g) g.inside (record { node = p.number n; word = found }) i late in record {
          count = e.count;
          checks = e.checks;
          lates = e.lates;
          checking = e.checking;
          fresh = e.fresh;
          tickets = let k = e.tickets in record {
            drawn = k.drawn;
            stored = k.stored;
            unused = k.unused;
            starts_kept = k.starts_kept;
            finishes_kept = k.finishes_kept;
            told_kept = k.told_kept;
          };
          earlier = e.earlier;
          inside = subst (λ (fs : List Found). Inside p c g.late (record (counts p g) { sees = fs }) g.inside)
              (ap (λ (fs : List Found). let f : Found = record { node = p.number n; word = found } in f ∷ fs) (ap (drive_sees g.looks) d)
              ∙ sym (ap (drive_sees (record { node = p.number n; word = found } ∷ g.looks)) d)) more;
        }
      where
        kind_is : (kind : ℕ) (stage : ℕ → ℕ) (n : ℕ) → stage n ≡ 2 → kind < 4 → (kind < 2 → stage n ≡ 0)
            → (kind ≡ 2 → stage n ≡ 1) → kind ≡ 3
        kind_is kind stage n two few asleep awake = dite (ℕ_discrete kind 3) (λ z. z)
            (λ z. absurd (dite (ℕ_discrete kind 2) (λ y. let f = awake y in omega arith)
            (λ y. let f = asleep (omega arith) in omega arith)))

    abbrev next : DriverView
    next = record g.lead { cycle = g.lead.cycle + 1; drive = drives.Between; checked = false }

    count_cycle : (c : ℕ) (xs : List Event) → count_by is_tick (Begin c ∷ (xs ++ End c ∷ [])) ≡ count_by is_tick xs
    count_cycle c xs = sum_by-cons (λ z. cond (is_tick z) 1 0) (Begin c) (xs ++ End c ∷ [])
        ∙ (let a = sum_by-append (λ z. cond (is_tick z) 1 0) xs (End c ∷ []) in
        let b = sum_by-cons (λ z. cond (is_tick z) 1 0) (End c) [] in omega arith)

    -- the End is stored
    pub events_ended : (k : ℕ) → g.lead.drive ≡ drives.EndDrawn → k ≡ g.lead.ticket → g.lead.cycle < last p
        → event_place p.shape k < length ws → lead_drawn g.lead ≤ lead_drawn next
        → Events p (record (with_lead g next) {
          past = g.past ++ so_far (marks p g) g.lead.cycle g.inside;
          inside = [];
          late = 0;
          looks = g.looks;
        }) (set ws (event_place p.shape k) (event_word_of (End g.lead.cycle)))
    events_ended k d is within room more =
        let c : ℕ = g.lead.cycle in let past : List Event = g.past ++ so_far (marks p g) c g.inside in
        let h : Whole = record (with_lead g next) { past = past; inside = []; late = 0; looks = g.looks } in
        let S : NodeView → ℕ = λ z. cond (eqb z.next c) (phase_started z.phase) 1 in let F : NodeView
        → ℕ = λ z. cond (eqb z.next c) (phase_finished z.phase) 1 in
        let done = all_done p g ws sound a (ap is_resetting d) (let z : drive_stage g.lead.drive ≡ 2 = ap drive_stage d in omega arith) in
        let past_c : (n : ℕ) → n < nodes p → n ≢ p.driver → eqb (g.nodes n).next c ≡ false = λ n l o. let z = (done n l o).0 in
        ne_eqb (g.nodes n).next c (λ q. omega arith) in
        let tells : drive_tells g.lead g.late g.lead.drive ≡ (k, End c) ∷ [] = ap (drive_tells g.lead g.late) d
        ∙ ap (λ j. (j, End c) ∷ []) (sym is) in
        let full : so_far (marks p g) c g.inside ≡ Begin c ∷ (g.inside ++ End c ∷ []) =
        λ i. cond (ap is_begun d i) (cond (ap is_ending d i) (Begin c ∷ (g.inside ++ End c ∷ [])) (Begin c ∷ g.inside)) [] in
        let later = a.later in
        let logs = words_stored p ws (event_word_of (End c)) (c + 1) 0 past [] (marks p h) k (omega arith) (omega arith) room
        (ended p c g.late g.past g.inside (marks p g) (marks p h) (records p ws) (logs_of p g ws e) sound later within
        (ap is_begun d, ap is_ending d) refl k tells
        (λ n l. dite (ℕ_discrete n p.driver) (λ q. ap (marks p g).holds q
        ∙ lead_here p g (drive_holds g.lead g.lead.drive) (λ z. phase_holds z z.phase) ∙ ap (drive_holds g.lead) d)
        (λ q. node_was p g (λ z. phase_holds z z.phase) (drive_holds g.lead g.lead.drive) n q
        ∙ ap (phase_holds (g.nodes n)) (done n l q).1))
        (λ n l. dite (ℕ_discrete n p.driver) (λ q. ap (marks p g).counts.started q ∙ lead_here p g (drive_started g.lead.drive) S
        ∙ ap drive_started d) (λ q. node_was p g S (drive_started g.lead.drive) n q
        ∙ ap (λ b. cond b (phase_started (g.nodes n).phase) 1) (past_c n l q)))
        (λ n l. dite (ℕ_discrete n p.driver) (λ q. ap (marks p g).counts.finished q ∙ lead_here p g (drive_finished g.lead.drive) F
        ∙ ap drive_finished d) (λ q. node_was p g F (drive_finished g.lead.drive) n q
        ∙ ap (λ b. cond b (phase_finished (g.nodes n).phase) 1) (past_c n l q)))
        (λ n l. dite (ℕ_discrete n p.driver) (λ q. ap (marks p h).counts.started q
        ∙ lead_here p h 0 (λ z. cond (eqb z.next (c + 1)) (phase_started z.phase) 1))
        (λ q. node_was p h (λ z. cond (eqb z.next (c + 1)) (phase_started z.phase) 1) 0 n q
        ∙ (let z = done n l q in λ i. cond (eq-eqb (g.nodes n).next (c + 1) z.0 i) (phase_started (z.1 i)) 1)))
        (λ n l. dite (ℕ_discrete n p.driver) (λ q. ap (marks p h).counts.finished q
        ∙ lead_here p h 0 (λ z. cond (eqb z.next (c + 1)) (phase_finished z.phase) 1))
        (λ q. node_was p h (λ z. cond (eqb z.next (c + 1)) (phase_finished z.phase) 1) 0 n q
        ∙ (let z = done n l q in λ i. cond (eq-eqb (g.nodes n).next (c + 1) z.0 i) (phase_finished (z.1 i)) 1)))
        refl refl refl) in record {
          count = let b = count_lead p g (get_or ws 0 0) 0 next (omega arith) e.count in
              let w = get_or-set_other ws (event_place p.shape k) 0 (event_word_of (End c)) 0 (λ z. omega arith) in omega arith;
          checks = let z = e.checks in let i = e.inside in let y = i.ticks in
              let w = sum_by-append (λ z. cond (is_tick z) 1 0) g.past (so_far (marks p g) c g.inside) in
              let v : count_by is_tick (so_far (marks p g) c g.inside) ≡ count_by is_tick g.inside = ap (count_by is_tick) full
              ∙ count_cycle c g.inside in omega arith;
          lates = ticks_end p g e.lates (so_far (marks p g) c g.inside) (ap is_looking d) e.inside.only e.inside.ticks full;
          checking = λ z. absurd (true≢false (sym z));
          fresh = λ _. refl;
          tickets = logs.tickets;
          earlier = logs.earlier;
          inside = logs.inside;
        }
