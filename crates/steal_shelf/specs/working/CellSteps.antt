-- One step of a cell on its way through the boards of a run.
-- Source: PipeWire's documentation, "Data loops"; that loops of one node move between threads is
-- this project's own.
use Rattle.std.specs.Prelude.{◌≡◌, ◌⊎◌, ℕ, ◌+◌, ◌<◌, List, slice_get}
use Rattle.board_rule.specs.declared.board.Board.{Board}
use Rattle.data_loop.specs.declared.loop_state.LoopState.{LoopState}
use Rattle.data_loop.specs.Loops.{IsBetweenEpochs}
use Rattle.data_loop.specs.LoopWay.{IsAmid}

-- A STEP: a turn on the board of its epoch, or the way into the next one
pub record HasStepped (boards : List Board) (s t : LoopState) : Type 0 where
  pub run_model : t.run_model ≡ s.run_model
  pub nodes : t.nodes ≡ s.nodes
  pub epoch_states : (j : ℕ) → s.epoch < j
      → slice_get t.epoch_states.items j ≡ slice_get s.epoch_states.items j
  pub went : ((t.epoch ≡ s.epoch) × IsAmid boards t)
      ⊎ ((t.epoch ≡ s.epoch + 1) × IsBetweenEpochs t)
