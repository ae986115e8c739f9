-- The rule of the shelf: a cell is at home in its slot, or just one seat has its turn.
-- Source: this project's own.
use Rattle.std.specs.Prelude.{◌≡◌, ◌⊎◌, ℕ, true, false, List, [], Option, Some, length, slice_get, slice_index}
use mathlib.Core.Option.{some, none}
use lib.ListN.{get_elem?}
use Rattle.atomic_table.specs.Table.{State}
use Rattle.data_loop.specs.declared.loop_state.LoopState.{LoopState}
use Rattle.steal_shelf.specs.declared.view.CellView.{CellView}
use Rattle.steal_shelf.specs.Cells.{IsCell}

abbrev pub ShelfState : Type 0
ShelfState = State (Option LoopState) CellView

-- the view has the turn of cell i
abbrev pub HasTurn : ℕ → CellView → Type 0
HasTurn i v = (v.cell ≡ i) × (v.has ≡ true)

-- HOME: the slot holds the cell, and no seat has its turn
pub record IsHome (i : ℕ) (c : LoopState) (s : ShelfState) : Type 0 where
  pub word : slice_index s.words i ≡ 0
  pub state : LoopState
  pub slot : get_elem? s.homes i ≡ some (some (Some state))
  pub allowed : IsCell c state
  pub nobody : (id : ℕ) (v : CellView) → get_elem? s.views id ≡ some v → HasTurn i v → ⊥

-- OUT: just one seat has its turn, and its slot
pub record IsOut (i : ℕ) (s : ShelfState) : Type 0 where
  pub word : slice_index s.words i ≡ 1
  pub slot : get_elem? s.homes i ≡ some none
  pub owner : ℕ
  pub view : CellView
  pub there : get_elem? s.views owner ≡ some view
  pub has : HasTurn i view
  pub alone : (id : ℕ) (v : CellView) → get_elem? s.views id ≡ some v → HasTurn i v
      → id ≡ owner

-- THE RULE, of a shelf that was made with these cells
pub record Holds (made : List LoopState) (s : ShelfState) : Type 0 where
  pub words : length s.words ≡ length made
  pub homes : length s.homes ≡ length made
  pub agree : (id : ℕ) (v : CellView) → get_elem? s.views id ≡ some v → v.made ≡ made
  pub each : (i : ℕ) (c : LoopState) → slice_get made i ≡ Some c
      → IsHome i c s ⊎ IsOut i s

-- the first seat has no cell
abbrev pub root_view : List LoopState → CellView
root_view made = record {
  cell = length made;
  has = false;
  tries = 0;
  took = [];
  left = [];
  made = made;
}
