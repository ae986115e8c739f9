use Rattle.std.proofs.Common.{◌≡◌, ◌+◌, min, fold, length, take}
use Rattle.board_rule.specs.OnBoard.{layout}
use Rattle.board_rule.specs.Layout.{first, last}
use Rattle.data_loop.specs.LoopTurn.{next_in}
use Rattle.data_loop.proofs.epoch_state.EpochState.fewest.Given as goal

abbrev pub invariant-loop-index : goal.invariant-loop-index
invariant-loop-index l = record {
  end : l.index-end ≡ length l.self.members;
  least : first (layout l.board) + l.least
      ≡ fold (λ c m. min c (next_in (layout l.board) l.self.seat.knows m.node)) (last (layout l.board)) (take l.index l.self.members);
}
