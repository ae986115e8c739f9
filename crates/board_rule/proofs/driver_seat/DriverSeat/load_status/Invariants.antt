use Rattle.std.proofs.Common.{true, ◌≡◌}
use Rattle.board_rule.specs.Layout.{layout_of}
use Rattle.board_rule.specs.events.EventSteps.{looked}
use Rattle.board_rule.proofs.driver_seat.DriverSeat.load_status.Given as goal

abbrev pub ghosts-look : goal.ghosts-look
ghosts-look a = record { is_driver = true; after = looked (layout_of a.board.now.board_shape) a.token.now.me.0 a.at; says = λ n. n ≡ n }
