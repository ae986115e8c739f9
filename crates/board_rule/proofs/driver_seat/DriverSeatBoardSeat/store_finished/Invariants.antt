use Rattle.std.proofs.Common.{true, ◌≡◌}
use Rattle.board_rule.specs.Steps.{finished}
use Rattle.board_rule.proofs.driver_seat.DriverSeatBoardSeat.store_finished.Given as goal

abbrev pub ghosts-finish : goal.ghosts-finish
ghosts-finish a = record { is_driver = true; after = λ _. finished true a.token.now.me.0 a.at; says = λ n. n ≡ n }
