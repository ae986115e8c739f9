use Rattle.std.proofs.Common.{true, ◌≡◌}
use Rattle.board_rule.specs.events.EventSteps.{event_stored}
use Rattle.board_rule.proofs.driver_seat.DriverSeatBoardSeat.store_event.Given as goal

abbrev pub ghosts-store : goal.ghosts-store
ghosts-store a = record { is_driver = true; after = λ _. event_stored true a.token.now.me.0 a.at; says = λ n. n ≡ n }
