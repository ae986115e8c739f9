use Rattle.std.proofs.Common.{true, ◌<◌}
use Rattle.board_rule.specs.Layout.{layout_of}
use Rattle.board_rule.specs.Steps.{lowered}
use Rattle.board_rule.proofs.driver_seat.DriverSeatBoardSeat.lower_pending.Given as goal

abbrev pub ghosts-lower : goal.ghosts-lower
ghosts-lower a = record { is_driver = true; after = lowered true (layout_of a.board.now.board_shape) a.token.now.me.0 a.at; says = λ n. 0 < n }
