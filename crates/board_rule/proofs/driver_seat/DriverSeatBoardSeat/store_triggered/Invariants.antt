use Rattle.std.proofs.Common.{true, ◌≡◌}
use Rattle.board_rule.specs.Layout.{layout_of}
use Rattle.board_rule.specs.Steps.{triggered}
use Rattle.board_rule.proofs.driver_seat.DriverSeatBoardSeat.store_triggered.Given as goal

abbrev pub ghosts-trigger : goal.ghosts-trigger
ghosts-trigger a = record { is_driver = true; after = λ _. triggered true (layout_of a.board.now.board_shape) a.token.now.me.0 a.at; says = λ n. n ≡ n }
