-- While the driver's node does not wait, no advance is a Tick.
use Rattle.std.proofs.Common.{◌≡◌, ℕ, true, false, List}
use Rattle.board_rule.specs.declared.view.View.{View}
use Rattle.board_rule.specs.declared.view.DriverPhase.TheVariants as drives
use Rattle.board_rule.specs.Layout.{BoardLayout}
use Rattle.board_progress.specs.Moves.{Move}
use Rattle.board_progress.specs.NodeAdvances.{NodeAdvances}
use Rattle.board_progress.specs.NodeAdvances.NodeAdvances.{stores_pending, stores_status, lowers, triggers, claims, finishes, draws_ticket, stores_event}
use Rattle.board_progress.specs.NodeAdvances.NodeAdvances.{looks, stores_late}
use Rattle.board_progress.specs.Progress.{BeginsTick}

module _ (p : BoardLayout) (words : List ℕ) (v : View) (moving : v.lead.drive ≡ drives.Waiting → ⊥) where
  pub no_tick : (x : Move) (a : NodeAdvances p words v x) → BeginsTick p words v x a → ⊥
  no_tick x (stores_pending may e) t = t
  no_tick x (stores_status may e) t = t
  no_tick x (lowers b m found may is e) t = t
  no_tick x (triggers b m may e) t = t
  no_tick x (claims b m may is e) t = t
  no_tick x (finishes b m may e) t = t
  no_tick x (draws_ticket true m ticket may is e) t = moving t
  no_tick x (draws_ticket false m ticket may is e) t = t
  no_tick x (stores_event b m may e) t = t
  no_tick x (looks n found may is e) t = t
  no_tick x (stores_late late may e) t = t
