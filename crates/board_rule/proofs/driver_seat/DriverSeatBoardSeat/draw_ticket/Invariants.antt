use Rattle.std.proofs.Common.{true, ◌<◌}
use Rattle.pw_graph.specs.Layout.{event_count}
use Rattle.board_rule.specs.events.EventSteps.{draws}
use Rattle.board_rule.proofs.driver_seat.DriverSeatBoardSeat.draw_ticket.Given as goal

abbrev pub ghosts-draw : goal.ghosts-draw
ghosts-draw a = record { is_driver = true; after = draws true a.token.now.me.0 a.at; says = λ n. n < event_count a.board.now.board_shape.shape }
