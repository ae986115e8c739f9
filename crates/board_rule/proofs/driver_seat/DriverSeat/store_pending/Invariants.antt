use Rattle.std.proofs.Common.{true, ◌≡◌}
use Rattle.board_rule.specs.Steps.{pending_stored}
use Rattle.board_rule.proofs.driver_seat.DriverSeat.store_pending.Given as goal

abbrev pub ghosts-reset_pending : goal.ghosts-reset_pending
ghosts-reset_pending a = record { is_driver = true; after = λ _. pending_stored a.token.now.me.0; says = λ n. n ≡ n }
