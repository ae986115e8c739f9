use Rattle.board_rule.specs.OnBoard.{layout}
use Rattle.board_progress.proofs.RunLemmas.{bounded, few_advances}
use Rattle.board_progress.proofs.progress.runs_are_bounded.Goals as goal

pub returns-clause-advances : goal.returns-clause-advances
returns-clause-advances c = λ n s t r. bounded (layout c.args._board.now) n s t r

pub returns-clause-steps : goal.returns-clause-steps
returns-clause-steps c = λ k n back s t r. few_advances (layout c.args._board.now) k n back s t r
