-- Laws of `specs/DriverProgress.antt`: what the driver's seat keeps goes along with its view.
use Rattle.std.proofs.Common.{◌≡◌, ℕ, ◌+◌, Bool, true, false, cond, eqb, List, length, get_or, refl, sym, ap, ◌∙◌, subst}
use Rattle.board_rule.specs.declared.view.DriverPhase.{DriverPhase}
use Rattle.board_rule.specs.declared.view.DriverPhase.TheVariants as drives
use Rattle.board_rule.specs.declared.view.DriverView.{DriverView}
use Rattle.board_rule.specs.declared.view.ReadView.{ReadView}
use Rattle.board_rule.specs.declared.view.Trail.{Trail}
use Rattle.board_rule.specs.declared.view.View.{View}
use Rattle.board_rule.specs.declared.lead.DriverProgress.{DriverProgress}
use Rattle.board_rule.specs.declared.lead.Due.TheVariants as dues
use Rattle.board_rule.specs.Layout.{BoardLayout}
use Rattle.board_rule.specs.View.{view_lead}
use Rattle.board_rule.specs.events.Bits.{with_bit, woke_of}
use Rattle.board_rule.specs.Steps.{CanKick, taken_of, kicked, told_trail, target_of, lowered}
use Rattle.board_rule.specs.events.EventSteps.{CanDrawLead, lead_draws, draw_trail, draws}
use Rattle.board_rule.specs.working.DriverProgress.{done_of, due_of, lead_progress_of, told_so_far, lead_drawn, is_begin}
use Rattle.board_rule.specs.Known.{IsDriverSeat}

module _ (v w : View) (x : DriverView) (t : Trail) (l k : DriverProgress) (rs : List ReadView) (o o' : ℕ) (is : w ≡ view_lead v x t)
    (s : IsDriverSeat v l rs o) (woke : woke_of t.told ≡ o') where
  -- the seat after one of its steps
  pub lead_set : lead_progress_of x ≡ k → IsDriverSeat w k rs o'
  lead_set e = subst (λ (u : View). IsDriverSeat u k rs o') (sym is) record { lead_is = e; reads_are = s.reads_are; woke_is = woke }

module _ (v w : View) (m : ℕ) (l k : DriverProgress) (rs : List ReadView) (o : ℕ) (s : IsDriverSeat v l rs o) where
  drawn_by : (ticket : ℕ) (d : DriverPhase) → v.lead.drive ≡ d → CanDrawLead v.lead.checked d
      → (lead_progress_of (lead_draws v.lead ticket d) ≡ lead_drawn (lead_progress_of v.lead) (due_of v.lead.drive) ticket)
      × (woke_of (draw_trail v.trail d).told ≡ cond (is_begin (due_of v.lead.drive)) 0 (woke_of v.trail.told))
  drawn_by ticket drives.Between e can = (
    λ j. let d = sym e j in
        lead_drawn (record (lead_progress_of v.lead) { done = done_of d; due = due_of d }) (due_of d) ticket,
    λ j. cond (is_begin (due_of (sym e j))) 0 (woke_of v.trail.told),
  )
  drawn_by ticket drives.BeginDrawn e can = absurd can
  drawn_by ticket (drives.Reset i) e can = absurd can
  drawn_by ticket (drives.Half i) e can = absurd can
  drawn_by ticket (drives.Kick i o) e can = absurd can
  drawn_by ticket drives.Waiting e can = (
    λ j. let d = sym e j in
        lead_drawn (record (lead_progress_of v.lead) { done = done_of d; due = due_of d }) (due_of d) ticket,
    λ j. cond (is_begin (due_of (sym e j))) 0 (woke_of v.trail.told),
  )
  drawn_by ticket drives.Checking e can = absurd can
  drawn_by ticket drives.LateStored e can = absurd can
  drawn_by ticket drives.Awake e can = (
    λ j. let d = sym e j in
        lead_drawn (record (lead_progress_of v.lead) { done = done_of d; due = due_of d }) (due_of d) ticket,
    λ j. cond (is_begin (due_of (sym e j))) 0 (woke_of v.trail.told),
  )
  drawn_by ticket drives.StartDrawn e can = absurd can
  drawn_by ticket drives.Running e can = absurd can
  drawn_by ticket drives.Done e can = (
    λ j. let d = sym e j in
        lead_drawn (record (lead_progress_of v.lead) { done = done_of d; due = due_of d }) (due_of d) ticket,
    λ j. cond (is_begin (due_of (sym e j))) 0 (woke_of v.trail.told),
  )
  drawn_by ticket drives.FinishDrawn e can = absurd can
  drawn_by ticket drives.FinishStored e can = (
    λ j. let d = sym e j in
        lead_drawn (record (lead_progress_of v.lead) { done = done_of d; due = due_of d }) (due_of d) ticket,
    λ j. cond (is_begin (due_of (sym e j))) 0 (woke_of v.trail.told),
  )
  drawn_by ticket drives.EndDrawn e can = absurd can

  pub lead_draws_on : (ticket o' : ℕ) → w ≡ draws true v m ticket → CanDrawLead v.lead.checked v.lead.drive → k ≡ lead_drawn l l.due ticket
      → o' ≡ cond (is_begin l.due) 0 o → IsDriverSeat w k rs o'
  lead_draws_on ticket o' is can k_is woke = let by = drawn_by ticket v.lead.drive refl can in
      lead_set v w (lead_draws v.lead ticket v.lead.drive) (draw_trail v.trail v.lead.drive) l k rs o o' is s
      (by.1 ∙ (λ j. cond (is_begin (s.lead_is j).due) 0 (s.woke_is j)) ∙ sym woke)
      (by.0 ∙ (λ j. lead_drawn (s.lead_is j) (s.lead_is j).due ticket) ∙ sym k_is)

-- a target more is lowered
kick_done : (n i : ℕ) (owes : Bool) → (done_of (kicked n i owes) ≡ told_so_far n i owes) × (due_of (kicked n i owes) ≡ dues.Tick)
kick_done n i true = (refl, refl)
kick_done n i false = by (eqb i n)
  where
    by : (b : Bool) → (done_of (cond b drives.Waiting (drives.Kick i false)) ≡ cond b 0 i)
        × (due_of (cond b drives.Waiting (drives.Kick i false)) ≡ dues.Tick)
    by true = (refl, refl)
    by false = (refl, refl)

module _ (p : BoardLayout) (v w : View) (m : ℕ) (l : DriverProgress) (rs : List ReadView) (o : ℕ) (s : IsDriverSeat v l rs o) where
  kicks : (n : ℕ) (d : DriverPhase) → v.lead.drive ≡ d → CanKick n d → (taken_of d ≡ done_of d) × (due_of d ≡ dues.Tick)
  kicks n drives.Between e can = absurd can
  kicks n drives.BeginDrawn e can = absurd can
  kicks n (drives.Reset i) e can = absurd can
  kicks n (drives.Half i) e can = absurd can
  kicks n (drives.Kick i owes) e can = (refl, refl)
  kicks n drives.Waiting e can = absurd can
  kicks n drives.Checking e can = absurd can
  kicks n drives.LateStored e can = absurd can
  kicks n drives.Awake e can = absurd can
  kicks n drives.StartDrawn e can = absurd can
  kicks n drives.Running e can = absurd can
  kicks n drives.Done e can = absurd can
  kicks n drives.FinishDrawn e can = absurd can
  kicks n drives.FinishStored e can = absurd can
  kicks n drives.EndDrawn e can = absurd can

  pub lead_lowers : (found done o' : ℕ) → w ≡ lowered true p v m found → CanKick (length (p.targets m)) v.lead.drive
      → done ≡ told_so_far (length (p.targets m)) (l.done + 1) (eqb found 1)
      → o' ≡ cond (eqb found 1) (with_bit o (p.number (get_or (p.targets m) l.done 0))) o → IsDriverSeat w (record l { done = done }) rs o'
  lead_lowers found done o' is can done_is woke = let n = length (p.targets m) in let d = v.lead.drive in let k = kicks n d refl can in
      let kick = kick_done n (taken_of d + 1) (eqb found 1) in
      let at : taken_of d ≡ l.done = k.0 ∙ ap (λ (x : DriverProgress). x.done) s.lead_is in
      let due : dues.Tick ≡ l.due = sym k.1 ∙ ap (λ (x : DriverProgress). x.due) s.lead_is in
      lead_set v w (record v.lead { drive = kicked n (taken_of d + 1) (eqb found 1) })
      (told_trail v.trail (target_of true p v m) found) l (record l { done = done }) rs o o' is s
      ((λ j. cond (eqb found 1) (with_bit (s.woke_is j) (p.number (get_or (p.targets m) (at j) 0))) (s.woke_is j)) ∙ sym woke)
      ((λ j. record (lead_progress_of v.lead) { done = kick.0 j; due = kick.1 j })
      ∙ (λ j. record (s.lead_is j) { done = told_so_far n (at j + 1) (eqb found 1); due = due j })
      ∙ ap (λ z. record l { done = z }) (sym done_is))
