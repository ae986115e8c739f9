-- The views that a board is made with: all seats are there, and cycles are left.
use Rattle.std.proofs.Common.{◌≡◌, ap, arith}
use Rattle.board_rule.specs.declared.view.View.{View}
use Rattle.board_rule.specs.declared.view.DriverView.{DriverView}
use Rattle.board_rule.specs.Layout.{BoardLayout, first}
use Rattle.board_rule.specs.View.{Samples, driver_view}
use Rattle.board_progress.specs.Starts.{CanStart}

pub can_start : (p : BoardLayout) (e : Samples) (v : View) → v ≡ driver_view p e p.seats → CanStart p v
can_start p e v new = λ s h at. let number : v.number ≡ p.seats = ap (λ (z : View). z.number) new in (
  (at.0, v, at.1, number, ap (λ (z : View). z.split) new),
  λ j u there same. (let a = ((h.seated.knows at.0 v at.1).is_driver number).0 in let b = ((h.seated.knows j u there).is_driver same).0 in
      let c : v.lead.cycle ≡ first p = ap (λ (z : View). z.lead.cycle) new in
      let d : v.lead.cycle ≡ h.whole.lead.cycle = ap (λ (z : DriverView). z.cycle) a in
      let f : u.lead.cycle ≡ h.whole.lead.cycle = ap (λ (z : DriverView). z.cycle) b in let some_left = h.seated.sound.some_cycles in omega arith),
)
