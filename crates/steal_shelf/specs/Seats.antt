-- A seat of the shelf: what one thread has of each cell.
-- Source: this project's own.
use Rattle.std.specs.Prelude.{◌≡◌, ◌⊎◌, ℕ, ◌<◌, Bool, true, false, List, [], ◌∷◌, None, Some, length, slice_get, slice_index_or}
use Rattle.atomic_table.specs.Seated.{TableId}
use Rattle.data_loop.specs.declared.loop_state.LoopState.{LoopState}
use Rattle.steal_shelf.specs.declared.shelf.Shelf.{Shelf}
use Rattle.steal_shelf.specs.declared.shelf.ShelfSeat.{ShelfSeat}
use Rattle.steal_shelf.specs.declared.token.Token.{Token}
use Rattle.steal_shelf.specs.Cells.{IsCell}

-- its table of words
abbrev pub table_of : Shelf → TableId
table_of shelf = let words = shelf.table.shared in words.table_id

-- the cells as they were given
abbrev pub cells_of : Shelf → List LoopState
cells_of shelf = shelf.table.shared.key.cells.value

-- the shelf may hold this for the cell i
abbrev pub IsAllowed : Shelf → ℕ → LoopState → Type 0
IsAllowed shelf i s = (c : LoopState) × (slice_get (cells_of shelf) i ≡ Some c) × IsCell c s

-- the token is one of the cell i; it has the turn, and with it the state of the cell, or not
pub record IsTokenOf (shelf : Shelf) (i : ℕ) (x : Token) : Type 0 where
  pub table : x.seat.table_id ≡ table_of shelf
  pub cell : x.cell ≡ i
  pub knows : x.seat.me.0.cell ≡ i
  pub made : x.seat.me.0.made ≡ cells_of shelf
  pub turn : ((x.seat.me.0.has ≡ false) × (x.seat.me.1 ≡ []))
      ⊎ ((x.seat.me.0.has ≡ true) × (x.seat.me.1 ≡ (i, None) ∷ []))

-- THE SEAT has a token of each cell
pub record IsSeatOf (shelf : Shelf) (seat : ShelfSeat) : Type 0 where
  pub count : length seat.tokens.items ≡ length (cells_of shelf)
  pub tokens : (i : ℕ) (d : Token) → i < length (cells_of shelf)
      → IsTokenOf shelf i (slice_index_or seat.tokens.items i d)

-- whether it has the cell; in which states it fetched it, and in which it put it back, the last
-- first; and how many of its tries found the cell out
abbrev pub turn_at : ShelfSeat → ℕ → Token → Bool
turn_at seat i d = (slice_index_or seat.tokens.items i d).seat.me.0.has

abbrev pub took_at : ShelfSeat → ℕ → Token → List LoopState
took_at seat i d = (slice_index_or seat.tokens.items i d).seat.me.0.took

abbrev pub left_at : ShelfSeat → ℕ → Token → List LoopState
left_at seat i d = (slice_index_or seat.tokens.items i d).seat.me.0.left

abbrev pub tries_at : ShelfSeat → ℕ → Token → ℕ
tries_at seat i d = (slice_index_or seat.tokens.items i d).seat.me.0.tries

abbrev pub HasCell : ShelfSeat → ℕ → Type 0
HasCell seat i = (d : Token) → turn_at seat i d ≡ true

abbrev pub LacksCell : ShelfSeat → ℕ → Type 0
LacksCell seat i = (d : Token) → turn_at seat i d ≡ false

-- NEW: no cell, and no try
pub record IsNewSeat (shelf : Shelf) (seat : ShelfSeat) : Type 0 where
  pub lacks : (i : ℕ) → i < length (cells_of shelf) → LacksCell seat i
  pub bare : (i : ℕ) (d : Token) → i < length (cells_of shelf)
      → (took_at seat i d ≡ []) × (left_at seat i d ≡ [])
  pub tries : (i : ℕ) (d : Token) → i < length (cells_of shelf) → tries_at seat i d ≡ 0
