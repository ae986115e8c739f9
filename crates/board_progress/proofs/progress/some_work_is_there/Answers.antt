use Rattle.board_progress.proofs.NeverStuckLemmas.{some_work}
use Rattle.board_progress.proofs.progress.some_work_is_there.Goals as goal

pub returns : goal.returns
returns c = λ s h staff more. some_work c.args._board.now.board_shape s h staff more
