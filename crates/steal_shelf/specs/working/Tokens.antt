-- The tokens of a new seat: one of each cell, no token of which has its turn.
-- Source: this project's own.
use Rattle.std.specs.Prelude.{◌≡◌, ℕ, ◌<◌, [], length, slice_index_or}
use Rattle.atomic_table.specs.Seated.{TableId}
use Rattle.steal_shelf.specs.declared.shelf.ShelfSeat.{ShelfSeat}
use Rattle.steal_shelf.specs.declared.token.Token.{Token}
use Rattle.steal_shelf.specs.declared.view.CellView.{CellView}
use Rattle.steal_shelf.specs.working.ShelfSteps.{dealt}

-- a token of the cell i, new, from the seat that had the view
pub record IsDealt (table : TableId) (v : CellView) (i : ℕ) (x : Token) : Type 0 where
  pub table_is : x.seat.table_id ≡ table
  pub cell : x.cell ≡ i
  pub me : x.seat.me ≡ (dealt i v, [])

-- a new token of each cell
pub record AreDealt (table : TableId) (v : CellView) (cells : ℕ) (seat : ShelfSeat) : Type 0 where
  pub count : length seat.tokens.items ≡ cells
  pub each : (i : ℕ) (d : Token) → i < cells
      → IsDealt table v i (slice_index_or seat.tokens.items i d)
