use Rattle.std.proofs.Common.{false, ◌≡◌}
use Rattle.board_rule.specs.events.EventSteps.{event_stored}
use Rattle.board_rule.proofs.loop_seat.LoopSeatBoardSeat.store_event.Given as goal

abbrev pub ghosts-store : goal.ghosts-store
ghosts-store a = record { is_driver = false; after = λ _. event_stored false a.token.now.me.0 a.at; says = λ n. n ≡ n }
