use Rattle.std.proofs.Common.{false, ◌≡◌}
use Rattle.board_rule.specs.Layout.{layout_of}
use Rattle.board_rule.specs.Steps.{claimed}
use Rattle.board_rule.proofs.loop_seat.LoopSeatBoardSeat.exchange_awake.Given as goal

abbrev pub ghosts-claim : goal.ghosts-claim
ghosts-claim a = record { is_driver = false; after = claimed false (layout_of a.board.now.board_shape) a.token.now.me.0 a.at; says = λ n. n ≡ n }
