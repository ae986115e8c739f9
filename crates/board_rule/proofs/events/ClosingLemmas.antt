-- Laws of `specs/Closing.antt`: at the end the words hold a legal history, and each event is read back.
use Rattle.std.proofs.Common.{◌≡◌, ℕ, zero, suc, ◌+◌, ◌-◌, ◌<◌, ◌≤◌, ⊎_elim, Bool, true, false, true≢false, cond, List, []}
use Rattle.std.proofs.Common.{◌∷◌, ◌++◌, length, get_or, Some, Option, refl, sym, ap, ◌∙◌, subst, arith, append-nil}
use mathlib.Core.Option.{some, some-injective, some-ne-none}
use mathlib.Core.Logic.{dite}
use native.Mathlib.Decide.{ℕ_discrete}
use lib.ListN.{get_elem?}
use Rattle.std.specs.Prelude.{Contains, count_by, filter, slice_get}
use Rattle.std.proofs.lemmas.List.{get_or_default}
use Rattle.pw_graph.specs.declared.event.Event.{Event}
use Rattle.pw_graph.specs.declared.event.Event.TheVariants.{Begin, Start, Finish, Tick, End}
use Rattle.pw_graph.specs.EventWords.{event_node, event_cycle, event_word_of, event_in}
use Rattle.pw_graph.specs.History.{is_tick, AreJoined, epoch_cycles, IsLegalHistory}
use Rattle.pw_graph.specs.Layout.{event_count, event_place, late_place}
use Rattle.board_rule.specs.declared.view.DriverPhase.{DriverPhase}
use Rattle.board_rule.specs.declared.view.DriverPhase.TheVariants as drives
use Rattle.atomic_table.specs.Table.{State, Final, Seen}
use Rattle.board_rule.specs.declared.board_shape.BoardShape.{BoardShape}
use Rattle.board_rule.specs.declared.view.DriverView.{DriverView}
use Rattle.board_rule.specs.declared.view.View.{View}
use Rattle.board_rule.specs.BoardRule.{Holds}
use Rattle.board_rule.specs.Layout.{BoardLayout, layout_of, IsSound, nodes, first, last}
use Rattle.board_rule.specs.activation.Phases.{is_between}
use Rattle.board_rule.specs.View.{Whole}
use Rattle.board_rule.specs.events.Marks.{phase_holds, drive_holds, drive_tells, is_begun, is_ending}
use Rattle.board_rule.specs.activation.ActivationRule.{Activations}
use Rattle.board_rule.specs.events.EventRule.{Events, IsHeld, so_far, marks}
use Rattle.board_rule.specs.events.TicketOrder.{AreInTicketOrder}
use Rattle.board_rule.specs.events.Closing.{HasEndedAll, last_view, LateOf, AreRecorded}
use Rattle.board_rule.proofs.events.TickLemmas.{ticks_past, none_checked}
use Rattle.board_rule.proofs.events.DrawLemmas.{none_in}
use Rattle.board_rule.proofs.events.MarkLemmas.{node_was, lead_here}
use Rattle.board_rule.proofs.events.LateLemmas.{told_late}
use Rattle.board_rule.proofs.events.TicketLemmas.{few_tickets, between_resets}

pub word_at : (xs : List ℕ) (i x : ℕ) → get_elem? xs i ≡ some x → get_or xs i 0 ≡ x
word_at [] i x e = absurd (some-ne-none x (sym e))
word_at (y ∷ xs) zero x e = some-injective y x e
word_at (y ∷ xs) (suc i) x e = word_at xs i x e

unchecked : (b : Bool) → cond {A = ℕ} b 1 0 ≡ 0 → b ≡ false
unchecked true e = absurd (omega arith)
unchecked false e = refl

-- an event is read back from its word, but for its late set
pub event_read : (e : Event) → event_node e ≤ 63 → event_in (event_word_of e) 0 ≡ told_late 0 e
event_read (Begin c) h = grind arith
event_read (Start c n) h = grind arith
event_read (Finish c n) h = grind arith
event_read (Tick c late) h = grind arith
event_read (End c) h = grind arith

-- a Tick that is read is one that is there
pub tick_read : (first lates : ℕ) (ws : List ℕ) (e : Event) (c l x : ℕ) → (let t : Event = Tick c l in t) ≡ told_late 0 e
    → LateOf first lates e ws → get_elem? ws (lates + (c - first)) ≡ some x → (let t : Event = Tick c x in t) ≡ e
tick_read first lates ws (Begin k) c l x q h w = cc
tick_read first lates ws (Start k n) c l x q h w = cc
tick_read first lates ws (Finish k n) c l x q h w = cc
tick_read first lates ws (Tick k set) c l x q h w = let same : c ≡ k = (cc) in
    let late : x ≡ set = sym (word_at ws (lates + (c - first)) x w) ∙ ap (λ n. get_or ws (lates + (n - first)) 0) same ∙ h.1 in
    (λ i. let t : Event = Tick (same i) (late i) in t)
tick_read first lates ws (End k) c l x q h w = cc

-- the driver's seat between two cycles
between_is : (d : DriverPhase) → is_between d ≡ true → d ≡ (let b : DriverPhase = drives.Between in b)
between_is drives.Between e = refl
between_is drives.BeginDrawn e = absurd (true≢false (sym e))
between_is (drives.Reset i) e = absurd (true≢false (sym e))
between_is (drives.Half i) e = absurd (true≢false (sym e))
between_is (drives.Kick i o) e = absurd (true≢false (sym e))
between_is drives.Waiting e = absurd (true≢false (sym e))
between_is drives.Checking e = absurd (true≢false (sym e))
between_is drives.LateStored e = absurd (true≢false (sym e))
between_is drives.Awake e = absurd (true≢false (sym e))
between_is drives.StartDrawn e = absurd (true≢false (sym e))
between_is drives.Running e = absurd (true≢false (sym e))
between_is drives.Done e = absurd (true≢false (sym e))
between_is drives.FinishDrawn e = absurd (true≢false (sym e))
between_is drives.FinishStored e = absurd (true≢false (sym e))
between_is drives.EndDrawn e = absurd (true≢false (sym e))

module _ (p : BoardLayout) (g : Whole) (ws : List ℕ) (sound : IsSound p) (a : Activations p g ws) (e : Events p g ws)
    (long : event_place p.shape (event_count p.shape) ≤ length ws) (ended : g.lead.cycle ≡ last p) where
  drive : g.lead.drive ≡ (let b : DriverPhase = drives.Between in b)
  drive = between_is g.lead.drive (by (is_between g.lead.drive) refl)
    where
      by : (b : Bool) → is_between g.lead.drive ≡ b → is_between g.lead.drive ≡ true
      by true q = q
      by false q = absurd (let z = a.within q in omega arith)

  silent : so_far (marks p g) g.lead.cycle g.inside ≡ []
  silent = ap (λ d. cond (is_begun d) (cond (is_ending g.lead.drive) (Begin g.lead.cycle ∷ (g.inside ++ End g.lead.cycle ∷ []))
      (Begin g.lead.cycle ∷ g.inside)) []) drive

  log_is : g.past ++ so_far (marks p g) g.lead.cycle g.inside ≡ g.past
  log_is = ap (λ ys. g.past ++ ys) silent ∙ append-nil g.past

  unheld : (t : ℕ) → IsHeld p (marks p g) t → ⊥
  unheld t h = ⊎_elim (λ (z : (n : ℕ) × (n < nodes p) × Contains ((marks p g).holds n) t). dite (ℕ_discrete z.0 p.driver)
      (λ q. none_in t (subst (λ ks. Contains ks t) (ap (marks p g).holds q
      ∙ lead_here p g (drive_holds g.lead g.lead.drive) (λ y. phase_holds y y.phase) ∙ ap (drive_holds g.lead) drive) z.2))
      (λ q. none_in t (subst (λ ks. Contains ks t) (node_was p g (λ y. phase_holds y y.phase) (drive_holds g.lead g.lead.drive) z.0 q
      ∙ ap (phase_holds (g.nodes z.0)) (a.resting (between_resets g.lead.drive (ap is_between drive)) z.0 z.1 q).1) z.2)))
      (λ (z : (y : Event) × Contains (marks p g).tells (t, y)). none_in (t, z.0)
      (subst (λ ks. Contains ks (t, z.0)) (ap (drive_tells g.lead g.late) drive) z.1)) h

  few : length g.past ≤ event_count p.shape
  few = let z = few_tickets p g (get_or ws 0 0) ws sound a e.count in let k = e.tickets in let d = k.drawn in
      let l = ap (λ (ys : List Event). length ys) log_is in omega arith

  late_of_past : (x : Event) (i : ℕ) → i < length g.past → ((d : Event) → get_or g.past i d ≡ x)
      → LateOf (first p) (late_place p.shape 0) x ws
  late_of_past (Begin c) i h at = tt
  late_of_past (Start c n) i h at = tt
  late_of_past (Finish c n) i h at = tt
  late_of_past (Tick c set) i h at = let k = e.earlier in let there : Contains g.past (Tick c set) = (i, h, at (Tick c set)) in
      let b = subst (λ y. (first p ≤ event_cycle y) × (event_cycle y < g.lead.cycle) × (event_node y ≤ 63)) (at (Tick c set))
      (k.before i (Tick c set) h) in let b₀ = b.0 in let b₁ = b.1 in
      let same : late_place p.shape 0 + (c - first p) ≡ late_place p.shape (c - first p) = omega arith in
      (omega arith, ap (λ j. get_or ws j 0) same ∙ k.lates c set there)
  late_of_past (End c) i h at = tt

  -- the words hold the events of the epoch
  pub recorded : AreRecorded (first p) (late_place p.shape 0) (event_place p.shape 0) g.past ws
  recorded = let k = e.tickets in record {
    count = k.drawn ∙ ap (λ (ys : List Event). length ys) log_is;
    room = let z = few in omega arith;
    some = omega arith;
    each = λ t x h. let same : event_place p.shape 0 + t ≡ event_place p.shape t = omega arith in ap (λ j. get_or ws j 0) same
        ∙ ⊎_elim (λ z. z) (λ z. absurd (unheld t z.1)) (k.stored t x (subst (λ ys. slice_get ys t ≡ Some x) (sym log_is) h));
    late = λ i d h. late_of_past (get_or g.past i d) i h (λ d'. get_or_default g.past i d' d h);
    ranges = λ i d h. let b = e.earlier.before i d h in let b₀ = b.0 in let b₁ = b.1 in let early = sound.early in (b.0, omega arith, b.2);
  }

  -- which are a legal history, with a Tick for each check
  pub legal : IsLegalHistory (p.shape ∷ []) g.past
  legal = let n : g.lead.cycle - first p ≡ p.shape.cycles = omega arith in
      subst (λ cs. AreJoined cs g.past) (ap (epoch_cycles p.shape) n ∙ sym (append-nil (epoch_cycles p.shape p.shape.cycles)))
      e.earlier.legal

  pub lates : filter is_tick g.past ≡ g.lead.lates
  lates = let y = e.inside.ticks in let x : count_by is_tick g.inside ≡ 0 = ap (count_by is_tick) (e.fresh (ap is_begun drive)) in
      ticks_past p g e.lates (none_checked p g e.lates (unchecked g.lead.checked (omega arith)))

  pub ticks : count_by is_tick g.past ≡ g.lead.checks
  ticks = let z = e.checks in let y = e.inside.ticks in
      let x : count_by is_tick g.inside ≡ 0 = ap (count_by is_tick) (e.fresh (ap is_begun drive)) in omega arith

-- what is left of a board whose driver's seat, with the view v, has ended all cycles
pub record LeavesEvents (board_shape : BoardShape) (v : View) (words : List ℕ) : Type 0 where
  pub history : List Event
  pub stands : AreRecorded board_shape.shape.first (late_place board_shape.shape 0) (event_place board_shape.shape 0) history words
  pub is_legal : IsLegalHistory (board_shape.shape ∷ []) history
  pub has_ticks : count_by is_tick history ≡ v.lead.checks
  pub has_lates : filter is_tick history ≡ v.lead.lates
  pub fits : length history ≤ event_count board_shape.shape
  pub ordered : AreInTicketOrder (layout_of board_shape) v history

leaves : (board_shape : BoardShape) (v w : View) (words : List ℕ) (id : ℕ) (s : State (Option ℕ) View) → Holds (layout_of board_shape) s → s.words ≡ words
    → get_elem? s.views id ≡ some w → w ≡ last_view (layout_of board_shape) v → HasEndedAll (layout_of board_shape) v → LeavesEvents board_shape v words
leaves board_shape v w words id s r are at is has = let p = layout_of board_shape in let g = r.whole in
    let number : w.number ≡ p.seats = ap (λ (u : View). u.number) is ∙ has.0.1 in
    let lead : v.lead ≡ g.lead = sym (ap (λ (u : View). u.lead) is) ∙ ((r.seated.knows id w at).is_driver number).0 in
    let ended : g.lead.cycle ≡ last p = sym (ap (λ (l : DriverView). l.cycle) lead) ∙ has.1 in record {
      history = g.past;
      stands = subst (λ ws. AreRecorded board_shape.shape.first (late_place board_shape.shape 0) (event_place board_shape.shape 0) g.past ws) are
          (recorded p g s.words r.seated.sound r.activations r.events r.seated.long ended);
      is_legal = legal p g s.words r.seated.sound r.activations r.events r.seated.long ended;
      has_ticks = ticks p g s.words r.seated.sound r.activations r.events r.seated.long ended ∙ ap (λ (l : DriverView). l.checks) (sym lead);
      has_lates = lates p g s.words r.seated.sound r.activations r.events r.seated.long ended ∙ ap (λ (l : DriverView). l.lates) (sym lead);
      fits = few p g s.words r.seated.sound r.activations r.events r.seated.long ended;
      ordered = let o = recorded p g s.words r.seated.sound r.activations r.events r.seated.long ended in record {
        state = s;
        allowed = r;
        seat = (id, at ∙ ap some is);
        count = o.count;
        each = λ t e h. let same : event_place p.shape t ≡ event_place p.shape 0 + t = omega arith in
            ap (λ j. get_or s.words j 0) same ∙ o.each t e h;
      };
    }

pub closed_leaves : (board_shape key : BoardShape) (v w : View) (words : List ℕ) (slots : List (Option ℕ)) (id : ℕ) → key ≡ board_shape
    → Final (Seen (Holds (layout_of key)) id w) words slots → w ≡ last_view (layout_of board_shape) v → HasEndedAll (layout_of board_shape) v → LeavesEvents board_shape v words
closed_leaves board_shape key v w words slots id about f is has = let s = f.0 in
    leaves board_shape v w words id s (subst (λ k. Holds (layout_of k) s) about f.1.0) f.2 f.1.1 is has
