use Rattle.std.proofs.Common.{false, ◌≡◌}
use Rattle.board_rule.specs.Layout.{layout_of}
use Rattle.board_rule.specs.Steps.{triggered}
use Rattle.board_rule.proofs.loop_seat.LoopSeatBoardSeat.store_triggered.Given as goal

abbrev pub ghosts-trigger : goal.ghosts-trigger
ghosts-trigger a = record { is_driver = false; after = λ _. triggered false (layout_of a.board.now.board_shape) a.token.now.me.0 a.at; says = λ n. n ≡ n }
