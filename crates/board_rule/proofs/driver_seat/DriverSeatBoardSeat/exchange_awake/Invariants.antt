use Rattle.std.proofs.Common.{true, ◌≡◌}
use Rattle.board_rule.specs.Layout.{layout_of}
use Rattle.board_rule.specs.Steps.{claimed}
use Rattle.board_rule.proofs.driver_seat.DriverSeatBoardSeat.exchange_awake.Given as goal

abbrev pub ghosts-claim : goal.ghosts-claim
ghosts-claim a = record { is_driver = true; after = claimed true (layout_of a.board.now.board_shape) a.token.now.me.0 a.at; says = λ n. n ≡ n }
