-- Each advance of the driver's seat on activations and events lowers what it has left; and all advances on activations and events.
use Rattle.std.proofs.Common.{◌≡◌, ℕ, suc, ◌+◌, ◌<◌, ◌≤◌, Bool, true, false, cond, eqb, List, [], ◌∷◌, length, refl, sym, ap}
use Rattle.std.proofs.Common.{subst, arith, eq-eqb, ne_eqb}
use Rattle.std.specs.Prelude.{Contains}
use mathlib.Core.Logic.{dite}
use native.Mathlib.Decide.{ℕ_discrete}
use Rattle.board_rule.specs.declared.view.View.{View}
use Rattle.board_rule.specs.declared.view.Found.{Found}
use Rattle.board_rule.specs.declared.view.Trail.{Trail}
use Rattle.board_rule.specs.declared.view.DriverView.{DriverView}
use Rattle.board_rule.specs.declared.view.Phase.TheVariants.{Awake, Done}
use Rattle.board_rule.specs.declared.view.DriverPhase.{DriverPhase}
use Rattle.board_rule.specs.declared.view.DriverPhase.TheVariants as drives
use Rattle.board_rule.specs.Sums.{times}
use Rattle.board_rule.specs.Layout.{BoardLayout, nodes, last}
use Rattle.board_rule.specs.View.{node_of}
use Rattle.board_rule.specs.Steps.{CanKick, KickIndebted, kicked, taken_of, untold, told_trail, target_of, reset_of, reset_to}
use Rattle.board_rule.specs.events.EventSteps.{CanDrawLead, CanStoreLead, lead_draws, draw_trail, lead_stores, looked_at, stored_phase, node_draws, late_kept}
use Rattle.board_rule.specs.events.Marks.{is_checking}
use Rattle.board_progress.specs.Moves.{Move}
use Rattle.board_progress.specs.NodeAdvances.{NodeAdvances}
use Rattle.board_progress.specs.NodeAdvances.NodeAdvances.{stores_pending, stores_status, lowers, triggers, claims, finishes, draws_ticket, stores_event}
use Rattle.board_progress.specs.NodeAdvances.NodeAdvances.{looks, stores_late}
use Rattle.board_progress.specs.PhasesLeft.{cycles_left, drive_steps}
use Rattle.board_progress.specs.StepsLeft.{unseen, lead_left}
use Rattle.board_progress.specs.BuffersLeft.{steps_left}
use Rattle.board_progress.proofs.StepsLeftLemmas.{one_cycle, node_falls, woken_falls}
use Rattle.board_progress.proofs.PhasesLeftLemmas.{total_less, times_none, unseen_most, lead_falls, triggered_falls, lowered_falls, drawn_falls, stored_falls}
use Rattle.board_progress.proofs.PhasesLeftLemmas.{in_drive, kicked_falls}

checked_most : (n : ℕ) (c : Bool) → (cond c 8 (n + 11) ≤ n + 11) × (7 < cond c 8 (n + 11))
checked_most n true = (omega arith, omega arith)
checked_most n false = (omega arith, omega arith)

module _ (p : BoardLayout) where
  abbrev n : ℕ
  n = nodes p

  abbrev t : ℕ
  t = length (p.targets p.driver)

  paid_falls : (x : DriverView) (fs : List Found) (d : DriverPhase) → x.drive ≡ d → KickIndebted t d
      → lead_left p (record x { drive = kicked t (taken_of d) false }) fs < lead_left p x fs
  paid_falls x fs (drives.Kick i false) is h = absurd h
  paid_falls x fs (drives.Kick i true) is h = let e = in_drive p x fs (drives.Kick i true) is in
      dite (ℕ_discrete i t)
      (λ q. let a = in_drive p (record x { drive = kicked t i false }) fs drives.Waiting (ap (λ c. cond c drives.Waiting (drives.Kick i false)) (eq-eqb i t q)) in
      let w = (checked_most n x.checked).0 in omega arith)
      (λ q. let a = in_drive p (record x { drive = kicked t i false }) fs (drives.Kick i false)
      (ap (λ c. cond c drives.Waiting (drives.Kick i false)) (ne_eqb i t q)) in omega arith)
  paid_falls x fs drives.Between is h = absurd h
  paid_falls x fs drives.BeginDrawn is h = absurd h
  paid_falls x fs (drives.Reset i) is h = absurd h
  paid_falls x fs (drives.Half i) is h = absurd h
  paid_falls x fs drives.Waiting is h = absurd h
  paid_falls x fs drives.Checking is h = absurd h
  paid_falls x fs drives.LateStored is h = absurd h
  paid_falls x fs drives.Awake is h = absurd h
  paid_falls x fs drives.StartDrawn is h = absurd h
  paid_falls x fs drives.Running is h = absurd h
  paid_falls x fs drives.Done is h = absurd h
  paid_falls x fs drives.FinishDrawn is h = absurd h
  paid_falls x fs drives.FinishStored is h = absurd h
  paid_falls x fs drives.EndDrawn is h = absurd h

  drawn_lead_falls : (x : DriverView) (tr : Trail) (ticket : ℕ) (d : DriverPhase) → x.drive ≡ d → CanDrawLead x.checked d → x.cycle < last p
      → lead_left p (lead_draws x ticket d) (draw_trail tr d).looks < lead_left p x tr.looks
  drawn_lead_falls x tr ticket drives.Between is h more = let e = in_drive p x tr.looks drives.Between is in
      let c = one_cycle (last p) x.cycle (drive_steps n t) more in omega arith
  drawn_lead_falls x tr ticket drives.Waiting is h more = let e = in_drive p x tr.looks drives.Waiting is in let u = unseen_most p [] in
      let c : cond {A = ℕ} x.checked 8 (n + 11) ≡ n + 11 = ap (λ b. cond {A = ℕ} b 8 (n + 11)) h in omega arith
  drawn_lead_falls x tr ticket drives.Awake is h more = let e = in_drive p x tr.looks drives.Awake is in omega arith
  drawn_lead_falls x tr ticket drives.Done is h more = let e = in_drive p x tr.looks drives.Done is in omega arith
  drawn_lead_falls x tr ticket drives.FinishStored is h more = let e = in_drive p x tr.looks drives.FinishStored is in omega arith
  drawn_lead_falls x tr ticket drives.BeginDrawn is h more = absurd h
  drawn_lead_falls x tr ticket (drives.Reset i) is h more = absurd h
  drawn_lead_falls x tr ticket (drives.Half i) is h more = absurd h
  drawn_lead_falls x tr ticket (drives.Kick i o) is h more = absurd h
  drawn_lead_falls x tr ticket drives.Checking is h more = absurd h
  drawn_lead_falls x tr ticket drives.LateStored is h more = absurd h
  drawn_lead_falls x tr ticket drives.StartDrawn is h more = absurd h
  drawn_lead_falls x tr ticket drives.Running is h more = absurd h
  drawn_lead_falls x tr ticket drives.FinishDrawn is h more = absurd h
  drawn_lead_falls x tr ticket drives.EndDrawn is h more = absurd h

  stored_lead_falls : (x : DriverView) (fs : List Found) (d : DriverPhase) → x.drive ≡ d → CanStoreLead d → (is_checking d ≡ true → x.checked ≡ true)
      → lead_left p (lead_stores x d) fs < lead_left p x fs
  stored_lead_falls x fs drives.BeginDrawn is h checked = let e = in_drive p x fs drives.BeginDrawn is in omega arith
  stored_lead_falls x fs drives.LateStored is h checked = let e = in_drive p x fs drives.LateStored is in
      let c : cond {A = ℕ} x.checked 8 (n + 11) ≡ 8 = ap (λ b. cond {A = ℕ} b 8 (n + 11)) (checked refl) in omega arith
  stored_lead_falls x fs drives.StartDrawn is h checked = let e = in_drive p x fs drives.StartDrawn is in omega arith
  stored_lead_falls x fs drives.FinishDrawn is h checked = let e = in_drive p x fs drives.FinishDrawn is in omega arith
  stored_lead_falls x fs drives.EndDrawn is h checked = let e = in_drive p x fs drives.EndDrawn is in omega arith
  stored_lead_falls x fs drives.Between is h checked = absurd h
  stored_lead_falls x fs (drives.Reset i) is h checked = absurd h
  stored_lead_falls x fs (drives.Half i) is h checked = absurd h
  stored_lead_falls x fs (drives.Kick i o) is h checked = absurd h
  stored_lead_falls x fs drives.Waiting is h checked = absurd h
  stored_lead_falls x fs drives.Checking is h checked = absurd h
  stored_lead_falls x fs drives.Awake is h checked = absurd h
  stored_lead_falls x fs drives.Running is h checked = absurd h
  stored_lead_falls x fs drives.Done is h checked = absurd h
  stored_lead_falls x fs drives.FinishStored is h checked = absurd h

  status_falls : (x : DriverView) (fs : List Found) (i : ℕ) → x.drive ≡ drives.Half i → i < nodes p
      → lead_left p (record x { drive = reset_to (nodes p) (suc i) }) fs < lead_left p x fs
  status_falls x fs i is h = let e = in_drive p x fs (drives.Half i) is in dite (ℕ_discrete (suc i) (nodes p))
      (λ q. let a = in_drive p (record x { drive = reset_to (nodes p) (suc i) }) fs (drives.Kick 0 false)
      (ap (λ c. cond c (drives.Kick 0 false) (drives.Reset (suc i))) (eq-eqb (suc i) (nodes p) q)) in omega arith)
      (λ q. let a = in_drive p (record x { drive = reset_to (nodes p) (suc i) }) fs (drives.Reset (suc i))
      (ap (λ c. cond c (drives.Kick 0 false) (drives.Reset (suc i))) (ne_eqb (suc i) (nodes p) q)) in omega arith)

  -- a check looks at one node more
  seen_falls : (fs : List Found) (f : Found) (m : ℕ) → m < nodes p → f.node ≡ p.number m → (Contains (looked_at fs) (p.number m) → ⊥)
      → unseen p (f ∷ fs) < unseen p fs
  seen_falls fs f m inside is none = total_less (λ i. cond (eqb (times (p.number i) (looked_at fs)) 0) 1 0)
      (λ i. cond (eqb (times (p.number i) (looked_at (f ∷ fs))) 0) 1 0) m (nodes p) inside
      (λ i. by i (eqb f.node (p.number i)))
      (let a : cond {A = ℕ} (eqb (times (p.number m) (looked_at fs)) 0) 1 0 ≡ 1 = ap (λ b. cond {A = ℕ} b 1 0)
      (eq-eqb (times (p.number m) (looked_at fs)) 0 (times_none (p.number m) (looked_at fs) none)) in
      let c : cond {A = ℕ} (eqb f.node (p.number m)) 1 0 ≡ 1 = ap (λ b. cond {A = ℕ} b 1 0) (eq-eqb f.node (p.number m) is) in
      let d : cond {A = ℕ} (eqb (times (p.number m) (looked_at (f ∷ fs))) 0) 1 0 ≡ 0 = ap (λ b. cond {A = ℕ} b 1 0)
      (ne_eqb (times (p.number m) (looked_at (f ∷ fs))) 0 (λ z. omega arith)) in omega arith)
    where
      by : (i : ℕ) (b : Bool) → cond {A = ℕ} (eqb (cond {A = ℕ} b 1 0 + times (p.number i) (looked_at fs)) 0) 1 0
          ≤ cond {A = ℕ} (eqb (times (p.number i) (looked_at fs)) 0) 1 0
      by i true = let a : cond {A = ℕ} (eqb (1 + times (p.number i) (looked_at fs)) 0) 1 0 ≡ 0 = ap (λ b. cond {A = ℕ} b 1 0)
          (ne_eqb (1 + times (p.number i) (looked_at fs)) 0 (λ z. omega arith)) in omega arith
      by i false = let a : 0 + times (p.number i) (looked_at fs) ≡ times (p.number i) (looked_at fs) = omega arith in
          let e : cond {A = ℕ} (eqb (0 + times (p.number i) (looked_at fs)) 0) 1 0 ≡ cond {A = ℕ} (eqb (times (p.number i) (looked_at fs)) 0) 1 0 =
          ap (λ k. cond {A = ℕ} (eqb k 0) 1 0) a in omega arith

  -- ALL ADVANCES on activations and events
  pub node_advance_falls : (words : List ℕ) (v : View) (x : Move) → (v.number ≡ p.seats → is_checking v.lead.drive ≡ true → v.lead.checked ≡ true)
      → NodeAdvances p words v x → steps_left p x.view < steps_left p v
  node_advance_falls words v x checked (stores_pending h e) = subst (λ (y : Move). steps_left p y.view < steps_left p v) (sym e)
      (lead_falls p v (record v.lead { drive = drives.Half (reset_of v.lead.drive) }) v.trail h.0.0.1
      (let a = in_drive p v.lead v.trail.looks (drives.Reset (reset_of v.lead.drive)) h.1 in omega arith))
  node_advance_falls words v x checked (stores_status h e) = subst (λ (y : Move). steps_left p y.view < steps_left p v) (sym e)
      (lead_falls p v (record v.lead { drive = reset_to (nodes p) (suc (reset_of v.lead.drive)) }) v.trail h.0.0.1
      (status_falls v.lead v.trail.looks (reset_of v.lead.drive) h.1 h.2))
  node_advance_falls words v x checked (lowers true m found h _ e) = subst (λ (y : Move). steps_left p y.view < steps_left p v) (sym e)
      (lead_falls p v (record v.lead { drive = kicked (length (p.targets m)) (taken_of v.lead.drive + 1) (eqb found 1) })
      (told_trail v.trail (target_of true p v m) found) h.0.0.1
      (subst (λ k. lead_left p (record v.lead { drive = kicked (length (p.targets k)) (taken_of v.lead.drive + 1) (eqb found 1) }) v.trail.looks
      < lead_left p v.lead v.trail.looks) (sym h.0.0.0)
      (kicked_falls p v.lead v.trail.looks (eqb found 1) v.lead.drive refl (subst (λ k. CanKick (length (p.targets k)) v.lead.drive) h.0.0.0 h.1))))
  node_advance_falls words v x checked (lowers false m found h _ e) = subst (λ (y : Move). steps_left p y.view < steps_left p v) (sym e)
      (node_falls p v m _ (told_trail v.trail (target_of false p v m) found) h.0.0 refl
      (lowered_falls p (length (p.targets m)) (last p) (node_of v m) (eqb found 1) (node_of v m).phase refl h.1))
  node_advance_falls words v x checked (triggers true m h e) = subst (λ (y : Move). steps_left p y.view < steps_left p v) (sym e)
      (lead_falls p v (record v.lead { drive = kicked (length (p.targets m)) (taken_of v.lead.drive) false }) v.trail h.0.0.1
      (subst (λ k. lead_left p (record v.lead { drive = kicked (length (p.targets k)) (taken_of v.lead.drive) false }) v.trail.looks
      < lead_left p v.lead v.trail.looks) (sym h.0.0.0)
      (paid_falls v.lead v.trail.looks v.lead.drive refl (subst (λ k. KickIndebted (length (p.targets k)) v.lead.drive) h.0.0.0 h.1))))
  node_advance_falls words v x checked (triggers false m h e) = subst (λ (y : Move). steps_left p y.view < steps_left p v) (sym e)
      (node_falls p v m _ v.trail h.0.0 refl
      (triggered_falls p (length (p.targets m)) (last p) (node_of v m) (node_of v m).phase refl h.1))
  node_advance_falls words v x checked (claims true m h _ e) = subst (λ (y : Move). steps_left p y.view < steps_left p v) (sym e)
      (lead_falls p v (record v.lead { drive = drives.Awake }) v.trail h.0.0.1
      (let a = in_drive p v.lead v.trail.looks drives.Waiting h.1 in let c = (checked_most (nodes p) v.lead.checked).1 in omega arith))
  node_advance_falls words v x checked (claims false m h _ e) = subst (λ (y : Move). steps_left p y.view < steps_left p v) (sym e)
      (node_falls p v m (record (node_of v m) { phase = Awake }) v.trail h.0.0 refl
      (let a = woken_falls p (length (p.targets m)) (node_of v m).next (last p) h.0.1.1 in
      let b = ap (cycles_left (last p) (length (p.targets m)) (node_of v m).next) h.1 in omega arith))
  node_advance_falls words v x checked (finishes true m h e) = subst (λ (y : Move). steps_left p y.view < steps_left p v) (sym e)
      (lead_falls p v (record v.lead { drive = drives.Done }) (untold v.trail) h.0.0.1
      (let a = in_drive p v.lead v.trail.looks drives.Running h.1 in omega arith))
  node_advance_falls words v x checked (finishes false m h e) = subst (λ (y : Move). steps_left p y.view < steps_left p v) (sym e)
      (node_falls p v m (record (node_of v m) { phase = Done }) (untold v.trail) h.0.0 refl
      (let b = ap (cycles_left (last p) (length (p.targets m)) (node_of v m).next) h.1 in omega arith))
  node_advance_falls words v x checked (draws_ticket true m ticket h _ e) = subst (λ (y : Move). steps_left p y.view < steps_left p v) (sym e)
      (lead_falls p v (lead_draws v.lead ticket v.lead.drive) (draw_trail v.trail v.lead.drive) h.0.0.1
      (drawn_lead_falls v.lead v.trail ticket v.lead.drive refl h.1 h.0.1.1))
  node_advance_falls words v x checked (draws_ticket false m ticket h _ e) = subst (λ (y : Move). steps_left p y.view < steps_left p v) (sym e)
      (node_falls p v m (node_draws (node_of v m) ticket (node_of v m).phase) v.trail h.0.0 refl
      (drawn_falls p (length (p.targets m)) (last p) ticket (node_of v m) (node_of v m).phase refl h.1))
  node_advance_falls words v x checked (stores_event true m h e) = subst (λ (y : Move). steps_left p y.view < steps_left p v) (sym e)
      (lead_falls p v (lead_stores v.lead v.lead.drive) v.trail h.0.0.1
      (stored_lead_falls v.lead v.trail.looks v.lead.drive refl h.1 (checked h.0.0.1)))
  node_advance_falls words v x checked (stores_event false m h e) = subst (λ (y : Move). steps_left p y.view < steps_left p v) (sym e)
      (node_falls p v m (record (node_of v m) { phase = stored_phase (node_of v m).phase }) v.trail h.0.0 refl
      (stored_falls p (length (p.targets m)) (last p) (node_of v m) (node_of v m).phase refl h.1))
  node_advance_falls words v x checked (looks m found h _ e) = subst (λ (y : Move). steps_left p y.view < steps_left p v) (sym e)
      (lead_falls p v v.lead (record v.trail { looks = (record { node = p.number m; word = found }) ∷ v.trail.looks }) h.0.0.1
      (let a = in_drive p v.lead v.trail.looks drives.Checking h.1 in
      let b = in_drive p v.lead ((record { node = p.number m; word = found }) ∷ v.trail.looks) drives.Checking h.1 in
      let s = seen_falls v.trail.looks (record { node = p.number m; word = found }) m h.2 refl h.4 in omega arith))
  node_advance_falls words v x checked (stores_late late h e) = subst (λ (y : Move). steps_left p y.view < steps_left p v) (sym e)
      (lead_falls p v (late_kept v.lead v.trail.looks) v.trail h.0.0.1
      (let a = in_drive p v.lead v.trail.looks drives.Checking h.1 in omega arith))
