use Rattle.std.proofs.Common.{true, ◌≡◌}
use Rattle.board_rule.specs.events.EventSteps.{late_stored}
use Rattle.board_rule.proofs.driver_seat.DriverSeat.store_late.Given as goal

abbrev pub ghosts-store_late : goal.ghosts-store_late
ghosts-store_late a = record { is_driver = true; after = λ _. late_stored a.token.now.me.0; says = λ n. n ≡ n }
