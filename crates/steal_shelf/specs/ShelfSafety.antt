-- What the rule of the shelf says of one cell: it is with one seat at most.
-- Source: this project's own.
use Rattle.std.specs.Prelude.{◌≡◌, ℕ, ◌<◌, List, length, slice_index}
use mathlib.Core.Option.{some, none}
use lib.ListN.{get_elem?}
use Rattle.data_loop.specs.declared.loop_state.LoopState.{LoopState}
use Rattle.steal_shelf.specs.declared.view.CellView.{CellView}
use Rattle.steal_shelf.specs.ShelfRule.{ShelfState, HasTurn}

-- a seat that has the turn of a cell is the only one, and the cell is out of its slot
pub record IsAlone (s : ShelfState) (i id : ℕ) : Type 0 where
  pub word : slice_index s.words i ≡ 1
  pub slot : get_elem? s.homes i ≡ some none
  pub alone : (jd : ℕ) (w : CellView) → get_elem? s.views jd ≡ some w → HasTurn i w
      → jd ≡ id

-- NO CELL IS WITH TWO SEATS
abbrev pub AreAlone : List LoopState → ShelfState → Type 0
AreAlone made s = (i id : ℕ) (v : CellView) → i < length made
    → get_elem? s.views id ≡ some v → HasTurn i v → IsAlone s i id
