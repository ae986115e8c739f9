use Rattle.std.proofs.Common.{true, ◌≡◌}
use Rattle.board_rule.specs.Layout.{layout_of}
use Rattle.board_rule.specs.Steps.{status_stored}
use Rattle.board_rule.proofs.driver_seat.DriverSeat.store_not_triggered.Given as goal

abbrev pub ghosts-reset_status : goal.ghosts-reset_status
ghosts-reset_status a = record { is_driver = true; after = λ _. status_stored (layout_of a.board.now.board_shape) a.token.now.me.0; says = λ n. n ≡ n }
