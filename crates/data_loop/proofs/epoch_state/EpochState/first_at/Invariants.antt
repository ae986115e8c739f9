use Rattle.std.proofs.Common.{◌≡◌, length}
use Rattle.board_rule.specs.OnBoard.{layout}
use Rattle.data_loop.specs.Progress.{NoneAt}
use Rattle.data_loop.proofs.epoch_state.EpochState.first_at.Given as goal

abbrev pub invariant-loop-index : goal.invariant-loop-index
invariant-loop-index l = record {
  end : l.index-end ≡ length l.self.members;
  none : NoneAt (layout l.board) l.self.seat.knows l.self.members l.least l.from
      → NoneAt (layout l.board) l.self.seat.knows l.self.members l.least l.index;
}
