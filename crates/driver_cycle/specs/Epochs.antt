-- The driver's thread on the board of an epoch: its seat, the loop that has the driver, and the
-- loops that it adopted.
-- Source: PipeWire's documentation, "Graph Scheduling" and "Data loops"; that a thread has several
-- loops is this project's own.
use Rattle.std.specs.Prelude.{◌≡◌, ◌+◌, ℕ, Bool, true, false, List, All}
use Rattle.board_rule.specs.declared.board.Board.{Board}
use Rattle.board_rule.specs.declared.view.View.{View}
use Rattle.board_rule.specs.Layout.{BoardLayout}
use Rattle.board_rule.specs.Known.{Known}
use Rattle.board_rule.specs.OnBoard.{layout, table_of}
use Rattle.data_loop.specs.declared.loop_state.LoopState.{LoopState}
use Rattle.data_loop.specs.LoopsOnBoards.{IsOnBoard, IsSameBut}
use Rattle.data_loop.specs.LoopDriver.{DrivesFrom, HasLedSoFar}
use Rattle.driver_cycle.specs.Leading.{IsLeading, IsBetween, IsWaiting}
use Rattle.driver_cycle.specs.Rounds.{HasLooked}
use Rattle.driver_cycle.specs.Settling.{HasHadTurns, AreEach}

-- THE THREAD: the seat leads the board, on which its loop and the adopted ones stand; where the
-- driver is a node of its loop that works, this has led each cycle before the seat's
pub record IsThread (board : Board) (seat : Known) (own : LoopState)
    (adopted : List LoopState) : Type 0 where
  pub leads : IsLeading own.run_model own.epoch board seat
  pub stands : IsOnBoard (layout board) (table_of board) own
  pub driver : DrivesFrom (layout board) own
  pub led_so_far : HasLedSoFar (layout board) own seat.knows
  pub adopted_stand : All (IsOnBoard (layout board) (table_of board)) adopted

-- GONE ON: from s, own and adopted to t, next and after the thread has gone through some rounds, in
-- which the ticker's count went from m to n
pub record HasGoneOn (board : Board) (s : Known) (own : LoopState) (adopted : List LoopState)
    (m : ℕ) (t : Known) (next : LoopState) (after : List LoopState) (n : ℕ) : Type 0 where
  pub thread : IsThread board t next after
  pub same : IsSameBut own next
  pub turned : AreEach (HasHadTurns (layout board) (table_of board)) adopted after
  pub looked : HasLooked s t m n

-- ONE ROUND ends the cycle, or leaves the seat waiting in it
abbrev pub HasGoneRound : Bool → BoardLayout → View → Bool → View → Type 0
HasGoneRound true p v checked w = IsBetween p w × (w.lead.cycle ≡ v.lead.cycle + 1)
HasGoneRound false p v checked w = IsWaiting p w × (w.lead.cycle ≡ v.lead.cycle)
    × (checked ≡ w.lead.checked)
