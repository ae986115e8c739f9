-- Each advance on activations and events lowers what its seat has left.
use Rattle.std.proofs.Common.{◌≡◌, ◌≢◌, ℕ, zero, suc, ◌+◌, ◌-◌, ◌*◌, ◌<◌, ◌≤◌, Bool, true, false, cond, eqb, List, length, refl, ap, ◌∙◌}
use Rattle.std.proofs.Common.{arith, eq-eqb, ne_eqb}
use Rattle.std.specs.Prelude.{Contains}
use Rattle.std.proofs.lemmas.List.{get_or_default}
use mathlib.Core.Logic.{dite}
use native.Mathlib.Decide.{ℕ_discrete}
use Rattle.board_rule.specs.declared.view.View.{View}
use Rattle.board_rule.specs.declared.view.Found.{Found}
use Rattle.board_rule.specs.declared.view.Trail.{Trail}
use Rattle.board_rule.specs.declared.view.NodeView.{NodeView}
use Rattle.board_rule.specs.declared.view.DriverView.{DriverView}
use Rattle.board_rule.specs.declared.view.Phase.{Phase}
use Rattle.board_rule.specs.declared.view.Phase.TheVariants.{Idle, Awake, StartDrawn, Running, Done, FinishDrawn, Telling}
use Rattle.board_rule.specs.declared.view.DriverPhase.{DriverPhase}
use Rattle.board_rule.specs.declared.view.DriverPhase.TheVariants as drives
use Rattle.board_rule.specs.Sums.{total, times}
use Rattle.board_rule.specs.Layout.{BoardLayout, nodes, last}
use Rattle.board_rule.specs.View.{view_lead}
use Rattle.board_rule.specs.Steps.{CanTell, Indebted, CanKick, settled, kicked, lowered_of, taken_of}
use Rattle.board_rule.specs.events.EventSteps.{CanDraw, CanStore, node_draws, stored_phase, looked_at}
use Rattle.board_progress.specs.PhasesLeft.{node_steps, cycles_left, drive_steps, turns_left}
use Rattle.board_progress.specs.StepsLeft.{unseen}
use Rattle.board_progress.specs.StepsLeft.{lead_left, turn_left}
use Rattle.board_progress.specs.BuffersLeft.{steps_left}
use Rattle.board_progress.proofs.OrderLemmas.{times_all}
use Rattle.board_progress.proofs.StepsLeftLemmas.{settled_falls}

-- a sum of which one term falls and no term rises
total_most : (f g : ℕ → ℕ) (k : ℕ) → ((i : ℕ) → g i ≤ f i) → total g k ≤ total f k
total_most f g zero below = omega arith
total_most f g (suc k) below = let a = total_most f g k below in let b = below k in omega arith

pub total_less : (f g : ℕ → ℕ) (m k : ℕ) → m < k → ((i : ℕ) → g i ≤ f i) → g m < f m → total g k < total f k
total_less f g m zero h below less = absurd (omega arith)
total_less f g m (suc k) h below less = dite (ℕ_discrete m k)
    (λ e. let a = total_most f g k below in let gm : g m ≡ g k = ap g e in let fm : f m ≡ f k = ap f e in omega arith)
    (λ o. let a = total_less f g m k (omega arith) below less in let b = below k in omega arith)

total_ones : (f : ℕ → ℕ) (k : ℕ) → ((i : ℕ) → f i ≤ 1) → total f k ≤ k
total_ones f zero most = omega arith
total_ones f (suc k) most = let a = total_ones f k most in let b = most k in omega arith

one_most : (b : Bool) → cond {A = ℕ} b 1 0 ≤ 1
one_most true = omega arith
one_most false = omega arith

pub times_none : (x : ℕ) (xs : List ℕ) → (Contains xs x → ⊥) → times x xs ≡ 0
times_none x xs none = dite (ℕ_discrete (times x xs) 0) (λ e. e)
    (λ o. absurd (times_all (λ j. j ≢ x) x xs (λ i d lt z. none (i, lt, get_or_default xs i x d lt ∙ z)) (omega arith) refl))

module _ (p : BoardLayout) where
  abbrev n : ℕ
  n = nodes p

  abbrev t : ℕ
  t = length (p.targets p.driver)

  pub unseen_most : (fs : List Found) → unseen p fs ≤ nodes p
  unseen_most fs = total_ones (λ i. cond (eqb (times (p.number i) (looked_at fs)) 0) 1 0) (nodes p) (λ i. one_most (eqb (times (p.number i) (looked_at fs)) 0))

  -- the driver's seat changes
  pub lead_falls : (v : View) (x : DriverView) (tr : Trail) → v.number ≡ p.seats → lead_left p x tr.looks < lead_left p v.lead v.trail.looks
      → steps_left p (view_lead v x tr) < steps_left p v
  lead_falls v x tr is less =
      let a : turn_left p v ≡ lead_left p v.lead v.trail.looks = ap (λ b. cond b (lead_left p v.lead v.trail.looks) 0) (eq-eqb v.number p.seats is) in
      let b : turn_left p (view_lead v x tr) ≡ lead_left p x tr.looks = ap (λ b. cond b (lead_left p x tr.looks) 0) (eq-eqb v.number p.seats is) in
      omega arith

  -- a follower's steps, by its phase
  pub triggered_falls : (k l : ℕ) (x : NodeView) (f : Phase) → x.phase ≡ f → Indebted k f
      → cycles_left l k (settled k x (lowered_of f) false).next (settled k x (lowered_of f) false).phase < cycles_left l k x.next x.phase
  triggered_falls k l x Idle is h = absurd h
  triggered_falls k l x Awake is h = absurd h
  triggered_falls k l x StartDrawn is h = absurd h
  triggered_falls k l x Running is h = absurd h
  triggered_falls k l x Done is h = absurd h
  triggered_falls k l x FinishDrawn is h = absurd h
  triggered_falls k l x (Telling i false) is h = absurd h
  triggered_falls k l x (Telling i true) is h = let e : cycles_left l k x.next x.phase ≡ (l - (x.next + 1)) * node_steps k + (2 * (k - i) + 1) =
      ap (cycles_left l k x.next) is in dite (ℕ_discrete i k)
      (λ q. let b : cycles_left l k (settled k x i false).next (settled k x i false).phase ≡ (l - (x.next + 1)) * node_steps k =
      ap (λ c. let y : NodeView = cond c (record x { next = x.next + 1; phase = Idle }) (record x { phase = Telling i false }) in
      cycles_left l k y.next y.phase) (eq-eqb i k q) in omega arith)
      (λ q. let b : cycles_left l k (settled k x i false).next (settled k x i false).phase ≡ (l - (x.next + 1)) * node_steps k + 2 * (k - i) =
      ap (λ c. let y : NodeView = cond c (record x { next = x.next + 1; phase = Idle }) (record x { phase = Telling i false }) in
      cycles_left l k y.next y.phase) (ne_eqb i k q) in omega arith)

  pub lowered_falls : (k l : ℕ) (x : NodeView) (owes : Bool) (f : Phase) → x.phase ≡ f → CanTell k f
      → cycles_left l k (settled k x (lowered_of f + 1) owes).next (settled k x (lowered_of f + 1) owes).phase < cycles_left l k x.next x.phase
  lowered_falls k l x owes Idle is h = absurd h
  lowered_falls k l x owes Awake is h = absurd h
  lowered_falls k l x owes StartDrawn is h = absurd h
  lowered_falls k l x owes Running is h = absurd h
  lowered_falls k l x owes Done is h = absurd h
  lowered_falls k l x owes FinishDrawn is h = absurd h
  lowered_falls k l x owes (Telling i true) is h = absurd h
  lowered_falls k l x owes (Telling i false) is h = settled_falls p k i l x owes h is

  pub drawn_falls : (k l ticket : ℕ) (x : NodeView) (f : Phase) → x.phase ≡ f → CanDraw f
      → cycles_left l k (node_draws x ticket f).next (node_draws x ticket f).phase < cycles_left l k x.next x.phase
  drawn_falls k l ticket x Idle is h = absurd h
  drawn_falls k l ticket x Awake is h = let e : cycles_left l k x.next x.phase ≡ (l - (x.next + 1)) * node_steps k + (2 * k + 5) = ap (cycles_left l k x.next) is in omega arith
  drawn_falls k l ticket x StartDrawn is h = absurd h
  drawn_falls k l ticket x Running is h = absurd h
  drawn_falls k l ticket x Done is h = let e : cycles_left l k x.next x.phase ≡ (l - (x.next + 1)) * node_steps k + (2 * k + 2) = ap (cycles_left l k x.next) is in omega arith
  drawn_falls k l ticket x FinishDrawn is h = absurd h
  drawn_falls k l ticket x (Telling i o) is h = absurd h

  pub stored_falls : (k l : ℕ) (x : NodeView) (f : Phase) → x.phase ≡ f → CanStore f
      → cycles_left l k x.next (stored_phase f) < cycles_left l k x.next x.phase
  stored_falls k l x Idle is h = absurd h
  stored_falls k l x Awake is h = absurd h
  stored_falls k l x StartDrawn is h = let e : cycles_left l k x.next x.phase ≡ (l - (x.next + 1)) * node_steps k + (2 * k + 4) = ap (cycles_left l k x.next) is in omega arith
  stored_falls k l x Running is h = absurd h
  stored_falls k l x Done is h = absurd h
  stored_falls k l x FinishDrawn is h = let e : cycles_left l k x.next x.phase ≡ (l - (x.next + 1)) * node_steps k + (2 * k + 1) = ap (cycles_left l k x.next) is in omega arith
  stored_falls k l x (Telling i o) is h = absurd h

  -- what the driver's seat has left of its cycle, in a phase
  abbrev base : DriverView → ℕ
  base x = (last p - (x.cycle + 1)) * drive_steps n t

  pub in_drive : (x : DriverView) (fs : List Found) (d : DriverPhase) → x.drive ≡ d → lead_left p x fs ≡ turns_left (last p) n t (unseen p fs) x.checked x.cycle d
  in_drive x fs d is = ap (turns_left (last p) n t (unseen p fs) x.checked x.cycle) is

  pub kicked_falls : (x : DriverView) (fs : List Found) (owes : Bool) (d : DriverPhase) → x.drive ≡ d → CanKick t d
      → lead_left p (record x { drive = kicked t (taken_of d + 1) owes }) fs < lead_left p x fs
  kicked_falls x fs owes (drives.Kick i true) is h = absurd h
  kicked_falls x fs true (drives.Kick i false) is h = let e = in_drive x fs (drives.Kick i false) is in omega arith
  kicked_falls x fs false (drives.Kick i false) is h = let e = in_drive x fs (drives.Kick i false) is in
      dite (ℕ_discrete (i + 1) t)
      (λ q. let a = in_drive (record x { drive = kicked t (i + 1) false }) fs drives.Waiting (ap (λ c. cond c drives.Waiting (drives.Kick (i + 1) false)) (eq-eqb (i + 1) t q)) in
      let w = waiting_most x.checked in omega arith)
      (λ q. let a = in_drive (record x { drive = kicked t (i + 1) false }) fs (drives.Kick (i + 1) false)
      (ap (λ c. cond c drives.Waiting (drives.Kick (i + 1) false)) (ne_eqb (i + 1) t q)) in omega arith)
    where
      waiting_most : (c : Bool) → cond c 8 (nodes p + 11) ≤ nodes p + 11
      waiting_most true = omega arith
      waiting_most false = omega arith
  kicked_falls x fs owes drives.Between is h = absurd h
  kicked_falls x fs owes drives.BeginDrawn is h = absurd h
  kicked_falls x fs owes (drives.Reset i) is h = absurd h
  kicked_falls x fs owes (drives.Half i) is h = absurd h
  kicked_falls x fs owes drives.Waiting is h = absurd h
  kicked_falls x fs owes drives.Checking is h = absurd h
  kicked_falls x fs owes drives.LateStored is h = absurd h
  kicked_falls x fs owes drives.Awake is h = absurd h
  kicked_falls x fs owes drives.StartDrawn is h = absurd h
  kicked_falls x fs owes drives.Running is h = absurd h
  kicked_falls x fs owes drives.Done is h = absurd h
  kicked_falls x fs owes drives.FinishDrawn is h = absurd h
  kicked_falls x fs owes drives.FinishStored is h = absurd h
  kicked_falls x fs owes drives.EndDrawn is h = absurd h
