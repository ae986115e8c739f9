-- What one step of a seat does to a board: one word and the view of the seat become others.
-- Source: this project's own.
use Rattle.std.specs.Prelude.{ℕ, Option, []}
use Rattle.atomic_table.specs.Table.{State, keeps, stepped}
use Rattle.board_rule.specs.declared.view.View.{View}

-- the place of the word, the number that is there after the step, and the view after it
pub record Move : Type 0 where
  pub place : ℕ
  pub word : ℕ
  pub view : View

-- the state after a move of the seat whose view has the index i
abbrev pub moved : State (Option ℕ) View → ℕ → Move → State (Option ℕ) View
moved s i x = stepped s x.place x.word i [] x.view keeps
