-- The tickets and events of the driver's seat, phase by phase.
use Rattle.std.proofs.Common.{◌≡◌, ℕ, suc, ◌+◌, ◌-◌, ◌*◌, ◌<◌, ◌≤◌, Bool, true, false, true≢false, cond, eqb, List, []}
use Rattle.std.proofs.Common.{◌∷◌, ◌++◌, map, length, set, get_or, refl, sym, ap, ◌∙◌, subst, arith}
use Rattle.board_rule.specs.declared.view.DriverPhase.{DriverPhase}
use Rattle.board_rule.specs.declared.view.DriverPhase.TheVariants as drives
use Rattle.board_rule.specs.declared.view.DriverView.{DriverView}
use Rattle.board_rule.specs.Layout.{BoardLayout, IsSound, first, last}
use Rattle.board_rule.specs.activation.Phases.{drive_drawn, drive_stage, is_between, is_resetting}
use Rattle.board_rule.specs.View.{Whole, with_lead}
use Rattle.std.specs.Prelude.{slice_get, Contains}
use Rattle.pw_graph.specs.declared.event.Event.{Event}
use Rattle.pw_graph.specs.declared.event.Event.TheVariants.{Begin, Start, Finish, Tick, End}
use Rattle.pw_graph.specs.EventWords.{event_word_of}
use Rattle.pw_graph.specs.Layout.{event_count, event_place, late_place}
use Rattle.board_rule.specs.declared.view.Found.{Found}
use Rattle.board_rule.specs.declared.view.Trail.{Trail}
use Rattle.board_rule.specs.events.Marks.{phase_started, phase_finished, drive_started, drive_finished, drive_tells}
use Rattle.board_rule.specs.activation.ActivationRule.{Activations}
use Rattle.board_rule.specs.events.EventRule.{Events, so_far, marks, lead_drawn}
use Rattle.board_rule.specs.events.EventSteps.{CanDrawLead, lead_draws, draw_trail, CanStoreLead, lead_stores, held_lead, lead_tells, late_of}
use Rattle.board_rule.specs.events.EventSteps.{late_kept}
use Rattle.board_rule.specs.events.Bits.{AreOfNodes}
use Rattle.std.proofs.lemmas.List.Elements.{All-nil}
use Rattle.board_rule.proofs.activation.WorkStepsLemmas.{IsOther, ticket_is_other}
use Rattle.board_rule.proofs.events.DrawLemmas.{first_in, only_in, none_in}
use Rattle.board_rule.proofs.events.LateLemmas.{told_late}
use Rattle.board_rule.proofs.events.MarkLemmas.{lead_here}
use Rattle.board_rule.proofs.DriverLemmas.{stage_driver}
use Rattle.board_rule.proofs.LeadEventsLemmas.{events_begin, events_end, events_tick, events_lead_start, events_lead_finish}
use Rattle.board_rule.proofs.events.CheckStepsLemmas.{events_lead_stored, events_late, events_ended}
use Rattle.board_rule.proofs.activation.CycleLemmas.{AlikeDrives, active_alike, active_begin, active_reset, active_end}

tick_drawn : AlikeDrives drives.Waiting drives.Checking
tick_drawn = record { rest = λ _. refl; owing = λ _. refl; stage = refl; runs = refl; goes_on = refl; ok = λ _. tt }

start_drawn : AlikeDrives drives.Awake drives.StartDrawn
start_drawn = record { rest = λ _. refl; owing = λ _. refl; stage = refl; runs = refl; goes_on = refl; ok = λ _. tt }

finish_drawn : AlikeDrives drives.Done drives.FinishDrawn
finish_drawn = record { rest = λ _. refl; owing = λ _. refl; stage = refl; runs = refl; goes_on = refl; ok = λ _. tt }

end_drawn : AlikeDrives drives.FinishStored drives.EndDrawn
end_drawn = record { rest = λ _. refl; owing = λ _. refl; stage = refl; runs = refl; goes_on = refl; ok = λ _. tt }

pub late_stored : AlikeDrives drives.Checking drives.LateStored
late_stored = record { rest = λ _. refl; owing = λ _. refl; stage = refl; runs = refl; goes_on = refl; ok = λ _. tt }

tick_stored : AlikeDrives drives.LateStored drives.Waiting
tick_stored = record { rest = λ _. refl; owing = λ _. refl; stage = refl; runs = refl; goes_on = refl; ok = λ _. tt }

start_stored : AlikeDrives drives.StartDrawn drives.Running
start_stored = record { rest = λ _. refl; owing = λ _. refl; stage = refl; runs = refl; goes_on = refl; ok = λ _. tt }

finish_stored : AlikeDrives drives.FinishDrawn drives.FinishStored
finish_stored = record { rest = λ _. refl; owing = λ _. refl; stage = refl; runs = refl; goes_on = refl; ok = λ _. tt }

-- how many tickets the driver's seat has drawn, in a phase d
abbrev drawn_in : DriverView → DriverPhase → ℕ
drawn_in l d = 5 * l.cycle + cond (is_between d) 0 (drive_drawn d + cond l.checked 1 0)

one : (b : Bool) → cond b 1 0 ≤ 1
one true = omega arith
one false = omega arith

same : (l : DriverView) (d : DriverPhase) → l.drive ≡ d → lead_drawn l ≡ drawn_in l d
same l d e = ap (drawn_in l) e

pub draws_more : (l : DriverView) (d : DriverPhase) (k : ℕ) → l.drive ≡ d → CanDrawLead l.checked d
    → lead_drawn l + 1 ≤ lead_drawn (lead_draws l k d)
draws_more l drives.Between k e can = let s = same l drives.Between e in omega arith
draws_more l drives.BeginDrawn k e can = absurd can
draws_more l (drives.Reset i) k e can = absurd can
draws_more l (drives.Half i) k e can = absurd can
draws_more l (drives.Kick i o) k e can = absurd can
draws_more l drives.Waiting k e can = let s = same l drives.Waiting e in let ck : l.checked ≡ false = can in
    let z : cond {A = ℕ} l.checked 1 0 ≡ 0 = ap (λ b. cond {A = ℕ} b 1 0) ck in omega arith
draws_more l drives.Checking k e can = absurd can
draws_more l drives.LateStored k e can = absurd can
draws_more l drives.Awake k e can = let s = same l drives.Awake e in omega arith
draws_more l drives.StartDrawn k e can = absurd can
draws_more l drives.Running k e can = absurd can
draws_more l drives.Done k e can = let s = same l drives.Done e in omega arith
draws_more l drives.FinishDrawn k e can = absurd can
draws_more l drives.FinishStored k e can = let s = same l drives.FinishStored e in omega arith
draws_more l drives.EndDrawn k e can = absurd can

-- a check that begins forgets what the last one looked at
pub draws_looks : (t : Trail) (d : DriverPhase) → AreOfNodes t.looks → AreOfNodes (draw_trail t d).looks
draws_looks t drives.Between is = is
draws_looks t drives.BeginDrawn is = is
draws_looks t (drives.Reset i) is = is
draws_looks t (drives.Half i) is = is
draws_looks t (drives.Kick i o) is = is
draws_looks t drives.Waiting is = All-nil _
draws_looks t drives.Checking is = is
draws_looks t drives.LateStored is = is
draws_looks t drives.Awake is = is
draws_looks t drives.StartDrawn is = is
draws_looks t drives.Running is = is
draws_looks t drives.Done is = is
draws_looks t drives.FinishDrawn is = is
draws_looks t drives.FinishStored is = is
draws_looks t drives.EndDrawn is = is

pub stores_more : (l : DriverView) (d : DriverPhase) → l.drive ≡ d → CanStoreLead d → lead_drawn l ≤ lead_drawn (lead_stores l d)
stores_more l drives.Between e can = absurd can
stores_more l drives.BeginDrawn e can = let s = same l drives.BeginDrawn e in omega arith
stores_more l (drives.Reset i) e can = absurd can
stores_more l (drives.Half i) e can = absurd can
stores_more l (drives.Kick i o) e can = absurd can
stores_more l drives.Waiting e can = absurd can
stores_more l drives.Checking e can = absurd can
stores_more l drives.LateStored e can = let s = same l drives.LateStored e in omega arith
stores_more l drives.Awake e can = absurd can
stores_more l drives.StartDrawn e can = let s = same l drives.StartDrawn e in omega arith
stores_more l drives.Running e can = absurd can
stores_more l drives.Done e can = absurd can
stores_more l drives.FinishDrawn e can = let s = same l drives.FinishDrawn e in omega arith
stores_more l drives.FinishStored e can = absurd can
stores_more l drives.EndDrawn e can = let s = same l drives.EndDrawn e in let z = one l.checked in omega arith

module _ (p : BoardLayout) (g : Whole) (ws : List ℕ) (l : DriverView) (is : l ≡ g.lead) (a : Activations p g ws) where
  at_whole : (d : DriverPhase) → l.drive ≡ d → g.lead.drive ≡ d
  at_whole d e = ap (λ (z : DriverView). z.drive) (sym is) ∙ e

  pub draws_goes : (d : DriverPhase) (k : ℕ) → l.drive ≡ d → CanDrawLead l.checked d → l.cycle < last p
      → Activations p (with_lead g (lead_draws l k d)) (set ws 0 (suc k))
  draws_goes drives.Between k e can within = subst (λ (z : DriverView). Activations p (with_lead g (lead_draws z k drives.Between))
      (set ws 0 (suc k))) (sym is)
      (active_begin p g ws (lead_draws g.lead k drives.Between) 0 (suc k) (at_whole drives.Between e)
      (subst (λ (z : DriverView). z.cycle < last p) is within) (ticket_is_other p) a)
  draws_goes drives.BeginDrawn k e can within = absurd can
  draws_goes (drives.Reset i) k e can within = absurd can
  draws_goes (drives.Half i) k e can within = absurd can
  draws_goes (drives.Kick i o) k e can within = absurd can
  draws_goes drives.Waiting k e can within = subst (λ (z : DriverView). Activations p (with_lead g (lead_draws z k drives.Waiting))
      (set ws 0 (suc k))) (sym is)
      (active_alike p g ws drives.Waiting drives.Checking (lead_draws g.lead k drives.Waiting) 0 (suc k)
      (at_whole drives.Waiting e) tick_drawn (ticket_is_other p) a)
  draws_goes drives.Checking k e can within = absurd can
  draws_goes drives.LateStored k e can within = absurd can
  draws_goes drives.Awake k e can within = subst (λ (z : DriverView). Activations p (with_lead g (lead_draws z k drives.Awake))
      (set ws 0 (suc k))) (sym is)
      (active_alike p g ws drives.Awake drives.StartDrawn (lead_draws g.lead k drives.Awake) 0 (suc k) (at_whole drives.Awake e) start_drawn
      (ticket_is_other p) a)
  draws_goes drives.StartDrawn k e can within = absurd can
  draws_goes drives.Running k e can within = absurd can
  draws_goes drives.Done k e can within = subst (λ (z : DriverView). Activations p (with_lead g (lead_draws z k drives.Done))
      (set ws 0 (suc k))) (sym is)
      (active_alike p g ws drives.Done drives.FinishDrawn (lead_draws g.lead k drives.Done) 0 (suc k) (at_whole drives.Done e) finish_drawn
      (ticket_is_other p) a)
  draws_goes drives.FinishDrawn k e can within = absurd can
  draws_goes drives.FinishStored k e can within = subst
      (λ (z : DriverView). Activations p (with_lead g (lead_draws z k drives.FinishStored)) (set ws 0 (suc k))) (sym is)
      (active_alike p g ws drives.FinishStored drives.EndDrawn (lead_draws g.lead k drives.FinishStored) 0 (suc k)
      (at_whole drives.FinishStored e) end_drawn (ticket_is_other p) a)
  draws_goes drives.EndDrawn k e can within = absurd can

  pub stores_goes : (d : DriverPhase) (i x : ℕ) → IsSound p → l.drive ≡ d → CanStoreLead d → IsOther p i
      → Activations p (with_lead g (lead_stores l d)) (set ws i x)
  stores_goes drives.Between i x sound e can other = absurd can
  stores_goes drives.BeginDrawn i x sound e can other = let many = sound.driver_in in
      subst (λ (z : DriverView). Activations p (with_lead g (lead_stores z drives.BeginDrawn)) (set ws i x)) (sym is)
      (active_reset p g ws (lead_stores g.lead drives.BeginDrawn) i x (omega arith) (at_whole drives.BeginDrawn e) other a)
  stores_goes (drives.Reset j) i x sound e can other = absurd can
  stores_goes (drives.Half j) i x sound e can other = absurd can
  stores_goes (drives.Kick j o) i x sound e can other = absurd can
  stores_goes drives.Waiting i x sound e can other = absurd can
  stores_goes drives.Checking i x sound e can other = absurd can
  stores_goes drives.LateStored i x sound e can other =
      subst (λ (z : DriverView). Activations p (with_lead g (lead_stores z drives.LateStored)) (set ws i x)) (sym is)
      (active_alike p g ws drives.LateStored drives.Waiting (lead_stores g.lead drives.LateStored) i x
      (at_whole drives.LateStored e) tick_stored other a)
  stores_goes drives.Awake i x sound e can other = absurd can
  stores_goes drives.StartDrawn i x sound e can other =
      subst (λ (z : DriverView). Activations p (with_lead g (lead_stores z drives.StartDrawn)) (set ws i x)) (sym is)
      (active_alike p g ws drives.StartDrawn drives.Running (lead_stores g.lead drives.StartDrawn) i x
      (at_whole drives.StartDrawn e) start_stored other a)
  stores_goes drives.Running i x sound e can other = absurd can
  stores_goes drives.Done i x sound e can other = absurd can
  stores_goes drives.FinishDrawn i x sound e can other =
      subst (λ (z : DriverView). Activations p (with_lead g (lead_stores z drives.FinishDrawn)) (set ws i x)) (sym is)
      (active_alike p g ws drives.FinishDrawn drives.FinishStored (lead_stores g.lead drives.FinishDrawn) i x
      (at_whole drives.FinishDrawn e) finish_stored other a)
  stores_goes drives.FinishStored i x sound e can other = absurd can
  stores_goes drives.EndDrawn i x sound e can other =
      subst (λ (z : DriverView). Activations p (with_lead g (lead_stores z drives.EndDrawn)) (set ws i x)) (sym is)
      (active_end p g ws (lead_stores g.lead drives.EndDrawn) i x sound (at_whole drives.EndDrawn e) other a)

  pub late_goes : (i x : ℕ) (fs : List Found) → l.drive ≡ drives.Checking → IsOther p i
      → Activations p (with_lead g (late_kept l fs)) (set ws i x)
  late_goes i x fs e other = subst (λ (z : DriverView). Activations p (with_lead g (late_kept z fs)) (set ws i x)) (sym is)
      (active_alike p g ws drives.Checking drives.LateStored (late_kept g.lead fs) i x (at_whole drives.Checking e) late_stored other a)

pub late_more : (l : DriverView) → l.drive ≡ drives.Checking → lead_drawn l ≤ lead_drawn (record l { drive = drives.LateStored })
late_more l e = let s = same l drives.Checking e in omega arith

-- the events so far, after a ticket of the driver's seat, and after an event that it stores
module _ (p : BoardLayout) (g : Whole) (ws : List ℕ) (l : DriverView) (fs : List Found) (is : l ≡ g.lead) (looks : fs ≡ g.looks) (sound : IsSound p)
    (a : Activations p g ws) (e : Events p g ws) where
  at_lead : (d : DriverPhase) → l.drive ≡ d → g.lead.drive ≡ d
  at_lead d q = ap (λ (z : DriverView). z.drive) (sym is) ∙ q

  module _ (wide : 0 < length ws) (room : suc (get_or ws 0 0) ≤ event_count p.shape) where
    abbrev t : ℕ
    t = get_or ws 0 0

    abbrev Drawn : DriverPhase → List Found → Type 0
    Drawn d looks = (inside : List Event) × Events p (record (with_lead g (lead_draws l t d)) { inside = inside; looks = looks })
        (set ws 0 (suc t))

    pub draws_logs : (tr : Trail) (d : DriverPhase) → tr.looks ≡ fs → l.drive ≡ d → CanDrawLead l.checked d → Drawn d (draw_trail tr d).looks
    draws_logs tr drives.Between same q can = (
      g.inside,
      subst (λ (z : DriverView × List Found). Events p (record (with_lead g (lead_draws z.0 t drives.Between))
          { inside = g.inside; looks = z.1 }) (set ws 0 (suc t))) (λ i. (sym is i, sym (same ∙ looks) i))
          (events_begin p g ws sound a e wide room (at_lead drives.Between q)
          (draws_more g.lead drives.Between t (at_lead drives.Between q) tt)),
    )
    draws_logs tr drives.BeginDrawn same q can = absurd can
    draws_logs tr (drives.Reset j) same q can = absurd can
    draws_logs tr (drives.Half j) same q can = absurd can
    draws_logs tr (drives.Kick j o) same q can = absurd can
    draws_logs tr drives.Waiting same q can = let c : g.lead.checked ≡ false = ap (λ (z : DriverView). z.checked) (sym is) ∙ can in (
      g.inside ++ Tick g.lead.cycle g.late ∷ [],
      subst (λ (z : DriverView). Events p (record (with_lead g (lead_draws z t drives.Waiting))
          { inside = g.inside ++ Tick g.lead.cycle g.late ∷ []; looks = [] }) (set ws 0 (suc t))) (sym is)
          (events_tick p g ws sound a e wide room (at_lead drives.Waiting q) c
          (draws_more g.lead drives.Waiting t (at_lead drives.Waiting q) c)),
    )
    draws_logs tr drives.Checking same q can = absurd can
    draws_logs tr drives.LateStored same q can = absurd can
    draws_logs tr drives.Awake same q can = let w = at_lead drives.Awake q in
        let inside : List Event = g.inside ++ Start g.lead.cycle (p.number p.driver) ∷ [] in (
          inside,
          subst (λ (z : DriverView × List Found). Events p
              (record (with_lead g (lead_draws z.0 t drives.Awake)) { inside = inside; looks = z.1 })
              (set ws 0 (suc t))) (λ i. (sym is i, sym (same ∙ looks) i))
              (events_lead_start p g ws sound a e wide room w (λ z. true≢false (sym z ∙ ap is_resetting w))
              (stage_driver p g ∙ ap drive_stage w) (draws_more g.lead drives.Awake t w tt)),
        )
    draws_logs tr drives.StartDrawn same q can = absurd can
    draws_logs tr drives.Running same q can = absurd can
    draws_logs tr drives.Done same q can = let w = at_lead drives.Done q in
        let inside : List Event = g.inside ++ Finish g.lead.cycle (p.number p.driver) ∷ [] in (
          inside,
          subst (λ (z : DriverView × List Found). Events p
              (record (with_lead g (lead_draws z.0 t drives.Done)) { inside = inside; looks = z.1 })
              (set ws 0 (suc t))) (λ i. (sym is i, sym (same ∙ looks) i))
              (events_lead_finish p g ws sound a e wide room w (draws_more g.lead drives.Done t w tt)),
        )
    draws_logs tr drives.FinishDrawn same q can = absurd can
    draws_logs tr drives.FinishStored same q can = (
      g.inside,
      subst (λ (z : DriverView × List Found). Events p (record (with_lead g (lead_draws z.0 t drives.FinishStored))
          { inside = g.inside; looks = z.1 }) (set ws 0 (suc t))) (λ i. (sym is i, sym (same ∙ looks) i))
          (events_end p g ws sound a e wide room (at_lead drives.FinishStored q)
          (draws_more g.lead drives.FinishStored t (at_lead drives.FinishStored q) tt)),
    )
    draws_logs tr drives.EndDrawn same q can = absurd can

  abbrev Stored : DriverPhase → ℕ → Event → Type 0
  Stored d k x = (past inside : List Event) × (late : ℕ)
      × Events p (record (with_lead g (lead_stores l d)) { past = past; inside = inside; late = late; looks = g.looks })
      (set ws (event_place p.shape k) (event_word_of x))

  only_own : (i j : ℕ) → Contains (i ∷ []) j → j ≡ i
  only_own i j h = sym (only_in i j h)

  none_own : (i j : ℕ) → Contains {X = ℕ} [] j → j ≡ i
  none_own i j h = absurd (none_in j h)

  only_told : (i j : ℕ) (x y : Event) → Contains {X = ℕ × Event} ((i, x) ∷ []) (j, y) → j ≡ i
  only_told i j x y h = sym (ap (λ (z : ℕ × Event). z.0) (only_in (i, x) (j, y) h))

  none_told : (i j : ℕ) (y : Event) → Contains {X = ℕ × Event} [] (j, y) → j ≡ i
  none_told i j y h = absurd (none_in (j, y) h)

  module _ (long : event_place p.shape (event_count p.shape) ≤ length ws) where
    pub stores_logs : (d : DriverPhase) → l.drive ≡ d → CanStoreLead d → held_lead l d < event_count p.shape → l.cycle < last p
        → Stored d (held_lead l d) (lead_tells l (p.number p.driver) d)
    stores_logs drives.Between q can near within = absurd can
    stores_logs drives.BeginDrawn q can near within = let w = at_lead drives.BeginDrawn q in (
      g.past,
      g.inside,
      g.late,
      subst (λ (z : DriverView). z.ticket < event_count p.shape
          → Events p (record (with_lead g (lead_stores z drives.BeginDrawn)) { looks = g.looks })
          (set ws (event_place p.shape z.ticket) (event_word_of (Begin z.cycle)))) (sym is)
          (λ near. events_lead_stored p g ws sound a e drives.BeginDrawn (drives.Reset 0) g.lead.ticket (Begin g.lead.cycle) w (omega arith)
          (e.tickets.told_kept g.lead.ticket (Begin g.lead.cycle)
          (subst (λ ks. Contains ks (g.lead.ticket, Begin g.lead.cycle)) (sym (ap (drive_tells g.lead g.late) w))
          (first_in (g.lead.ticket, Begin g.lead.cycle)))).1
          refl refl refl refl refl refl refl refl refl (none_own g.lead.ticket)
          (λ j y h. only_told g.lead.ticket j (Begin g.lead.cycle) y h) refl (stores_more g.lead drives.BeginDrawn w tt)) near,
    )
    stores_logs (drives.Reset j) q can near within = absurd can
    stores_logs (drives.Half j) q can near within = absurd can
    stores_logs (drives.Kick j o) q can near within = absurd can
    stores_logs drives.Waiting q can near within = absurd can
    stores_logs drives.Checking q can near within = absurd can
    stores_logs drives.LateStored q can near within = let w = at_lead drives.LateStored q in (
      g.past,
      g.inside,
      g.late,
      subst (λ (z : DriverView). z.ticket < event_count p.shape
          → Events p (record (with_lead g (lead_stores z drives.LateStored)) { looks = g.looks })
          (set ws (event_place p.shape z.ticket) (event_word_of (Tick z.cycle 0)))) (sym is)
          (λ near. events_lead_stored p g ws sound a e drives.LateStored drives.Waiting g.lead.ticket (Tick g.lead.cycle g.late) w
          (omega arith)
          (e.tickets.told_kept g.lead.ticket (Tick g.lead.cycle g.late)
          (subst (λ ks. Contains ks (g.lead.ticket, Tick g.lead.cycle g.late)) (sym (ap (drive_tells g.lead g.late) w))
          (first_in (g.lead.ticket, Tick g.lead.cycle g.late)))).1
          refl refl refl refl refl refl refl refl refl (none_own g.lead.ticket)
          (λ j y h. only_told g.lead.ticket j (Tick g.lead.cycle g.late) y h) refl (stores_more g.lead drives.LateStored w tt)) near,
    )
    stores_logs drives.Awake q can near within = absurd can
    stores_logs drives.StartDrawn q can near within = let w = at_lead drives.StartDrawn q in (
      g.past,
      g.inside,
      g.late,
      subst (λ (z : DriverView). z.start < event_count p.shape
          → Events p (record (with_lead g (lead_stores z drives.StartDrawn)) { looks = g.looks })
          (set ws (event_place p.shape z.start) (event_word_of (Start z.cycle (p.number p.driver))))) (sym is)
          (λ near. events_lead_stored p g ws sound a e drives.StartDrawn drives.Running g.lead.start
          (Start g.lead.cycle (p.number p.driver)) w (omega arith)
          (ap (slice_get (g.past ++ so_far (marks p g) g.lead.cycle g.inside)) (sym (lead_here p g g.lead.start (λ z. z.start)))
          ∙ (e.tickets.starts_kept p.driver sound.driver_in
          (lead_here p g (drive_started g.lead.drive) (λ z. cond (eqb z.next g.lead.cycle) (phase_started z.phase) 1)
          ∙ ap drive_started w)).1)
          refl refl refl refl refl refl refl refl refl (only_own g.lead.start) (λ j y h. none_told g.lead.start j y h) refl
          (stores_more g.lead drives.StartDrawn w tt)) near,
    )
    stores_logs drives.Running q can near within = absurd can
    stores_logs drives.Done q can near within = absurd can
    stores_logs drives.FinishDrawn q can near within = let w = at_lead drives.FinishDrawn q in (
      g.past,
      g.inside,
      g.late,
      subst (λ (z : DriverView). z.finish < event_count p.shape
          → Events p (record (with_lead g (lead_stores z drives.FinishDrawn)) { looks = g.looks })
          (set ws (event_place p.shape z.finish) (event_word_of (Finish z.cycle (p.number p.driver))))) (sym is)
          (λ near. events_lead_stored p g ws sound a e drives.FinishDrawn drives.FinishStored g.lead.finish
          (Finish g.lead.cycle (p.number p.driver)) w (omega arith)
          (ap (slice_get (g.past ++ so_far (marks p g) g.lead.cycle g.inside)) (sym (lead_here p g g.lead.finish (λ z. z.finish)))
          ∙ (e.tickets.finishes_kept p.driver sound.driver_in
          (lead_here p g (drive_finished g.lead.drive) (λ z. cond (eqb z.next g.lead.cycle) (phase_finished z.phase) 1)
          ∙ ap drive_finished w)).1)
          refl refl refl refl refl refl refl refl refl (only_own g.lead.finish) (λ j y h. none_told g.lead.finish j y h) refl
          (stores_more g.lead drives.FinishDrawn w tt)) near,
    )
    stores_logs drives.FinishStored q can near within = absurd can
    stores_logs drives.EndDrawn q can near within = let w = at_lead drives.EndDrawn q in (
      g.past ++ so_far (marks p g) g.lead.cycle g.inside,
      [],
      0,
      subst (λ (z : DriverView). z.ticket < event_count p.shape → z.cycle < last p
          → Events p (record (with_lead g (lead_stores z drives.EndDrawn))
          { past = g.past ++ so_far (marks p g) g.lead.cycle g.inside; inside = []; late = 0; looks = g.looks })
          (set ws (event_place p.shape z.ticket) (event_word_of (End z.cycle)))) (sym is)
          (λ near within. events_ended p g ws sound a e g.lead.ticket w refl within (omega arith) (stores_more g.lead drives.EndDrawn w tt))
          near within,
    )

    pub late_logs : (x : ℕ) → l.drive ≡ drives.Checking → l.cycle < last p → x ≡ late_of l.cycle fs
        → (past inside : List Event) × (late : ℕ) × Events p
        (record (with_lead g (late_kept l fs)) { past = past; inside = inside; late = late; looks = g.looks })
        (set ws (late_place p.shape (l.cycle - first p)) x)
    late_logs x q within bits = let w = at_lead drives.Checking q in let low = a.later in (
      g.past,
      map (told_late x) g.inside,
      x,
      subst (λ (z : DriverView). z.cycle < last p → x ≡ late_of z.cycle fs
          → Events p (record (with_lead g (late_kept z fs))
          { inside = map (told_late x) g.inside; late = x; looks = g.looks }) (set ws (late_place p.shape (z.cycle - first p)) x)) (sym is)
          (λ within bits. subst (λ (ys : List Found). Events p (record (with_lead g (late_kept g.lead ys))
          { inside = map (told_late x) g.inside; late = x; looks = g.looks }) (set ws (late_place p.shape (g.lead.cycle - first p)) x))
          (sym looks) (events_late p g ws sound a e x w within (omega arith) (bits ∙ ap (late_of g.lead.cycle) looks)
          (let m = late_more g.lead w in m))) within bits,
    )
