-- Where a board starts: its seats are there, and cycles are left.
-- Source: this project's own.
use Rattle.std.specs.Prelude.{◌≡◌, ℕ, Option}
use mathlib.Core.Option.{some}
use lib.ListN.{get_elem?}
use Rattle.atomic_table.specs.Table.{State}
use Rattle.board_rule.specs.declared.view.View.{View}
use Rattle.board_rule.specs.Layout.{BoardLayout}
use Rattle.board_rule.specs.BoardRule.{Holds}
use Rattle.board_progress.specs.Progress.{IsStaffed, IsUnfinished}

-- A BOARD CAN START: so it is in each state that meets the rule and in which a seat has the view v
abbrev pub CanStart : BoardLayout → View → Type 0
CanStart p v = (s : State (Option ℕ) View) → Holds p s
    → ((i : ℕ) × (get_elem? s.views i ≡ some v))
    → IsStaffed p s.views × IsUnfinished p s.views
