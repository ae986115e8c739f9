use Rattle.std.proofs.Common.{false, ◌<◌}
use Rattle.pw_graph.specs.Layout.{event_count}
use Rattle.board_rule.specs.events.EventSteps.{draws}
use Rattle.board_rule.proofs.loop_seat.LoopSeatBoardSeat.draw_ticket.Given as goal

abbrev pub ghosts-draw : goal.ghosts-draw
ghosts-draw a = record { is_driver = false; after = draws false a.token.now.me.0 a.at; says = λ n. n < event_count a.board.now.board_shape.shape }
