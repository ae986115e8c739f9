use Rattle.std.proofs.Common.{◌≡◌, ℕ, List, ◌++◌, length, filter, take}
use Rattle.std.specs.Prelude.{vec_capacity}
use Rattle.board_rule.specs.OnBoard.{layout, table_of}
use Rattle.data_loop.specs.Progress.{is_chosen}
use Rattle.data_loop.specs.Rooms.{IsSameRoom}
use Rattle.data_loop.specs.EpochStateParts.{IsSameEpochState}
use Rattle.data_loop.specs.EpochStates.{IsStanding, AreLeft}
use Rattle.data_loop.specs.LoopTurn.{HaveTried}
use Rattle.data_loop.proofs.epoch_state.EpochState.pass.Given as goal

abbrev pub invariant-loop-index : goal.invariant-loop-index
invariant-loop-index g l = record {
  end : l.index-end ≡ length l.fn.self.members;
  stands : IsStanding l.epoch_context.run_model.now l.epoch_context.epoch (layout l.epoch_context.board.now) (table_of l.epoch_context.board.now) l.self l.states l.rows;
  same : IsSameEpochState l.fn.self l.self;
  progress : l.self.progress ≡ l.fn.self.progress;
  states : AreLeft l.fn.self.members l.fn.states l.states;
  rows : IsSameRoom l.fn.rows l.rows;
  capacity : vec_capacity l.found ≡ vec_capacity l.fn.found;
  more : List (ℕ × ℕ);
  items : l.found.items ≡ l.fn.found.items ++ more;
  tried : HaveTried (layout l.epoch_context.board.now) l.fn.self.seat.knows
      (filter (is_chosen (layout l.epoch_context.board.now) l.fn.self.seat.knows l.progress.least l.at) (take l.index l.fn.self.members)) more l.self.seat.knows;
}
