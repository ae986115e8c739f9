-- What the rule of the shelf says of one cell's way: any seat can fetch it, or one can put it back.
-- Source: this project's own.
use Rattle.std.specs.Prelude.{◌≡◌, ◌⊎◌, ℕ, ◌<◌, List, Some, length, slice_get, slice_index}
use mathlib.Core.Option.{some, none}
use lib.ListN.{get_elem?}
use Rattle.data_loop.specs.declared.loop_state.LoopState.{LoopState}
use Rattle.steal_shelf.specs.declared.view.CellView.{CellView}
use Rattle.steal_shelf.specs.Cells.{IsCell}
use Rattle.steal_shelf.specs.ShelfRule.{ShelfState, HasTurn}

-- the next try of any seat finds 0, and then the seat has the cell, as it may have become
pub record CanBeFetched (made : List LoopState) (i : ℕ) (s : ShelfState) : Type 0 where
  pub word : slice_index s.words i ≡ 0
  pub given : LoopState
  pub state : LoopState
  pub was : slice_get made i ≡ Some given
  pub slot : get_elem? s.homes i ≡ some (some (Some state))
  pub is : IsCell given state

-- a seat has its turn, and so may put it back; no other may
pub record CanBePutBack (i : ℕ) (s : ShelfState) : Type 0 where
  pub seat : ℕ
  pub view : CellView
  pub there : get_elem? s.views seat ≡ some view
  pub has : HasTurn i view
  pub slot : get_elem? s.homes i ≡ some none
  pub alone : (id : ℕ) (v : CellView) → get_elem? s.views id ≡ some v → HasTurn i v
      → id ≡ seat

-- NO CELL IS LOST
abbrev pub AreInReach : List LoopState → ShelfState → Type 0
AreInReach made s = (i : ℕ) → i < length made → CanBeFetched made i s ⊎ CanBePutBack i s
