use Rattle.std.proofs.Common.{false, ◌≡◌}
use Rattle.board_rule.specs.Steps.{finished}
use Rattle.board_rule.proofs.loop_seat.LoopSeatBoardSeat.store_finished.Given as goal

abbrev pub ghosts-finish : goal.ghosts-finish
ghosts-finish a = record { is_driver = false; after = λ _. finished false a.token.now.me.0 a.at; says = λ n. n ≡ n }
