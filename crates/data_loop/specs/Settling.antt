-- A loop on the board of its epoch after turns of its, and when no follower has cycles left.
-- Source: PipeWire's documentation, "Graph Scheduling" and "Data loops"; which loop has a node is
-- this project's own.
use Rattle.std.specs.Prelude.{◌≡◌, ◌≢◌, [], All}
use Rattle.atomic_table.specs.Seated.{TableId}
use Rattle.board_rule.specs.Layout.{BoardLayout, last}
use Rattle.data_loop.specs.declared.loop_state.LoopState.{LoopState}
use Rattle.data_loop.specs.declared.epoch_state.EpochState.{EpochState}
use Rattle.data_loop.specs.LoopTurn.{next_in}
use Rattle.data_loop.specs.Loops.{HasEpochState}
use Rattle.data_loop.specs.LoopsOnBoards.{IsOnBoard, IsAtEnd, IsSameBut}

-- the loop has led all cycles of the epoch, where the driver is a node of it that works
abbrev pub HasLedAll : BoardLayout → LoopState → Type 0
HasLedAll p s = (g : EpochState) → HasEpochState s s.epoch g → g.driver ≢ []
    → s.led ≡ p.shape.cycles

-- AFTER TURNS: from s to u the loop has had turns on the board, and nothing else
pub record HasHadTurns (p : BoardLayout) (t : TableId) (s u : LoopState) : Type 0 where
  pub on : IsOnBoard p t u
  pub same : IsSameBut s u
  pub led : u.led ≡ s.led

-- SETTLED by such turns: no follower has cycles left. This is the end of the epoch for a loop that
-- has led all cycles, or that has no driver
pub record HasSettled (p : BoardLayout) (t : TableId) (s u : LoopState) : Type 0 where
  pub turned : HasHadTurns p t s u
  pub ended : All (λ m. next_in p turned.on.epoch_state.seat.knows m.node ≡ last p)
      turned.on.epoch_state.members
  pub end : HasLedAll p s → IsAtEnd p t u
