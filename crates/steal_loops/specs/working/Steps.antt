-- What one step of a cell did, and what it woke.
-- Source: PipeWire's documentation, "Graph Scheduling"; that any thread runs any node is this
-- project's own.
use Rattle.std.specs.Prelude.{◌≡◌, ◌≢◌, ℕ, ◌+◌, List, [], Some, slice_get}
use Rattle.board_rule.specs.declared.board.Board.{Board}
use Rattle.board_rule.specs.Layout.{BoardLayout}
use Rattle.board_rule.specs.OnBoard.{layout}
use Rattle.data_loop.specs.declared.did.Did.TheVariants.{Ran as NodeRan, Idle}
use Rattle.data_loop.specs.declared.loop_state.LoopState.{LoopState}
use Rattle.data_loop.specs.LoopsOnBoards.{HasTurnedOnce}
use Rattle.data_loop.specs.LoopTries.{HasWoken}
use Rattle.steal_loops.specs.declared.cell_steps.Step.{Step}
use Rattle.steal_loops.specs.declared.cell_steps.Step.TheVariants.{Ran, Early, Passed}

-- A TURN by its answer: a node ran; or there were cycles left, and each try was too early
abbrev pub HasTurnedSo : BoardLayout → Step → LoopState → LoopState → Type 0
HasTurnedSo p Ran s t = (node : ℕ) × HasTurnedOnce p s (NodeRan node) t
    × HasWoken (NodeRan node) t
HasTurnedSo p Early s t = HasTurnedOnce p s Idle t × HasWoken Idle t × (t.found.items ≢ [])
HasTurnedSo p Passed s t = ⊥

-- on the board of its epoch
abbrev pub HasTurnedHere : List Board → Step → LoopState → LoopState → Type 0
HasTurnedHere boards did s t = (b : Board) × (slice_get boards s.epoch ≡ Some b)
    × HasTurnedSo (layout b) did s t

-- A STEP by its answer: such a turn, or the way into the next epoch, which wakes nobody
abbrev pub HasMade : List Board → Step → LoopState → LoopState → Type 0
HasMade boards Ran s t = HasTurnedHere boards Ran s t
HasMade boards Early s t = HasTurnedHere boards Early s t
HasMade boards Passed s t = (t.epoch ≡ s.epoch + 1) × (t.woke ≡ 0)
