-- What a seat learns by a step of the shelf.
-- Source: this project's own.
use Rattle.std.specs.Prelude.{◌≡◌, ℕ, zero, suc, ◌+◌, true, false, List, [], ◌∷◌, ◌++◌, Option, None, Some, option_to_list, slice_get}
use Rattle.atomic_table.specs.Table.{Me, rest}
use Rattle.data_loop.specs.declared.loop_state.LoopState.{LoopState}
use Rattle.steal_shelf.specs.declared.view.CellView.{CellView}
use Rattle.steal_shelf.specs.Cells.{IsCell}

abbrev pub ShelfMe : Type 0
ShelfMe = Me (Option LoopState) CellView

-- the rule allows the state for the view's cell
abbrev pub IsCellOf : CellView → LoopState → Type 0
IsCellOf v s = (c : LoopState) × (slice_get v.made v.cell ≡ Some c) × IsCell c s

-- what is in the slot that the seat took last
abbrev pub in_hand : List (ℕ × Option LoopState) → Option LoopState
in_hand [] = None
in_hand (slot ∷ slots) = slot.1

-- views after a try that found the cell out, after one that took its turn with a state, and after
-- the turn, in which a state was left
abbrev pub tried : CellView → CellView
tried v = record v { tries = v.tries + 1 }

abbrev pub taken : LoopState → CellView → CellView
taken s v = record v { has = true; took = s ∷ v.took }

abbrev pub rested : Option LoopState → CellView → CellView
rested s v = record v { has = false; left = option_to_list s ++ v.left }

-- the view of a new seat of the cell n
abbrev pub dealt : ℕ → CellView → CellView
dealt n v = record v { cell = n; has = false; tries = 0; took = []; left = [] }

-- A TRY of the cell i found 0, and then the seat has its turn and the state that was in the slot,
-- which the rule allows; or it found 1
abbrev pub HasTried : ℕ → ShelfMe → ℕ → ShelfMe → Type 0
HasTried i me zero m = (me.0.has ≡ false)
    × ((s : LoopState) × (m.0 ≡ taken s me.0) × (m.1 ≡ (i, Some s) ∷ me.1) × IsCellOf me.0 s)
HasTried i me (suc n) m = (n ≡ 0) × (m.0 ≡ tried me.0) × (m.1 ≡ me.1)

-- THE END of the turn: what is in the slot goes home
abbrev pub HasReturned : ShelfMe → ShelfMe → Type 0
HasReturned me m = (m.0 ≡ rested (in_hand me.1) me.0) × (m.1 ≡ rest me.1)
