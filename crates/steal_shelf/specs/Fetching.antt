-- What a seat of the shelf has of a cell after it tried the cell, and after it put the cell back.
-- Source: this project's own.
use Rattle.std.specs.Prelude.{◌≡◌, ◌≢◌, ℕ, ◌+◌, ◌∷◌, Some, slice_get, slice_index_or}
use Rattle.data_loop.specs.declared.loop_state.LoopState.{LoopState}
use Rattle.steal_shelf.specs.declared.shelf.ShelfSeat.{ShelfSeat}
use Rattle.steal_shelf.specs.declared.token.Token.{Token}
use Rattle.steal_shelf.specs.Seats.{turn_at, took_at, left_at, tries_at, HasCell, LacksCell}

-- the last time that it put the cell back, this was its state
abbrev pub HasLeftSo : ShelfSeat → ℕ → LoopState → Type 0
HasLeftSo seat i s = (d : Token) → slice_get (left_at seat i d) 0 ≡ Some s

-- FETCHED in the state s: it had the cell not, and has it; that was one time more
pub record HasFetched (i : ℕ) (s : LoopState) (old new : ShelfSeat) : Type 0 where
  pub lacked : LacksCell old i
  pub has : HasCell new i
  pub took : (d : Token) → took_at new i d ≡ s ∷ took_at old i d
  pub left : (d : Token) → left_at new i d ≡ left_at old i d
  pub tries : (d : Token) → tries_at new i d ≡ tries_at old i d

-- FOUND OUT: one more of its tries, and it has the cell where it had it
pub record HasFoundOut (i : ℕ) (old new : ShelfSeat) : Type 0 where
  pub same : (d : Token) → turn_at new i d ≡ turn_at old i d
  pub took : (d : Token) → took_at new i d ≡ took_at old i d
  pub left : (d : Token) → left_at new i d ≡ left_at old i d
  pub tries : (d : Token) → tries_at new i d ≡ tries_at old i d + 1

-- PUT BACK in the state s: it has the cell no more; that was one time more
pub record HasPutBack (i : ℕ) (s : LoopState) (old new : ShelfSeat) : Type 0 where
  pub lacks : LacksCell new i
  pub left : (d : Token) → left_at new i d ≡ s ∷ left_at old i d
  pub took : (d : Token) → took_at new i d ≡ took_at old i d
  pub tries : (d : Token) → tries_at new i d ≡ tries_at old i d

-- what it has of the others is as before
abbrev pub AreOthersLeft : ℕ → ShelfSeat → ShelfSeat → Type 0
AreOthersLeft i old new = (j : ℕ) (d : Token) → j ≢ i
    → slice_index_or new.tokens.items j d ≡ slice_index_or old.tokens.items j d
