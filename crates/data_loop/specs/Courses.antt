-- The epochs of a loop in a thread of its own, one after the other: in each the rounds on its
-- board, and then the way into the next one.
-- Source: PipeWire's documentation, "Data loops"; that a loop has a board an epoch is this
-- project's own.
use Rattle.std.specs.Prelude.{◌≡◌, ◌+◌, List, [], ◌∷◌, Some, slice_get}
use Rattle.board_rule.specs.declared.board.Board.{Board}
use Rattle.board_rule.specs.OnBoard.{layout}
use Rattle.ready_queues.specs.declared.way.Way.{Way}
use Rattle.ready_queues.specs.declared.ways.Ways.{Ways}
use Rattle.ready_queues.specs.Starting.{HasStarted}
use Rattle.data_loop.specs.declared.loop_state.LoopState.{LoopState}
use Rattle.data_loop.specs.LoopsOnBoards.{IsNextOf}
use Rattle.data_loop.specs.Rounds.{HasMadeRounds}

-- ONE EPOCH, from s and a to t and b
pub record HasGoneThrough (boards : List Board) (ways : Ways) (s : LoopState) (a : Way)
    (t : LoopState) (b : Way) : Type 0 where
  pub board : Board
  pub here : slice_get boards s.epoch ≡ Some board
  pub last : LoopState
  pub rounds : HasMadeRounds (layout board) ways s a last b
  pub next : IsNextOf last t
  pub epoch : t.epoch ≡ s.epoch + 1

-- SOME EPOCHS, one after the other, by what the loop and its way were after each
abbrev pub AreGoneThrough : List Board → Ways → List (LoopState × Way) → LoopState → Way
    → LoopState → Way → Type 0
AreGoneThrough boards ways [] s a t b = (t ≡ s) × (b ≡ a)
AreGoneThrough boards ways (m ∷ ms) s a t b = HasGoneThrough boards ways s a m.0 m.1
    × AreGoneThrough boards ways ms m.0 m.1 t b

-- some epochs, however many; whether one is left is not said here
abbrev pub HasGoneOn : List Board → Ways → LoopState → Way → LoopState → Way → Type 0
HasGoneOn boards ways s a t b = (after : List (LoopState × Way))
    × AreGoneThrough boards ways after s a t b

-- the way was started, and then the loop went through some epochs; that none is left is said by
-- `IsDone`, beside it
abbrev pub HasRunAll : List Board → Ways → LoopState → Way → LoopState → Way → Type 0
HasRunAll boards ways s a t b = (way : Way) × HasStarted a way × HasGoneOn boards ways s way t b
