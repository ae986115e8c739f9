use Rattle.std.proofs.Common.{false, ◌<◌}
use Rattle.board_rule.specs.Layout.{layout_of}
use Rattle.board_rule.specs.Steps.{lowered}
use Rattle.board_rule.proofs.loop_seat.LoopSeatBoardSeat.lower_pending.Given as goal

abbrev pub ghosts-lower : goal.ghosts-lower
ghosts-lower a = record { is_driver = false; after = lowered false (layout_of a.board.now.board_shape) a.token.now.me.0 a.at; says = λ n. 0 < n }
