use Rattle.board_progress.proofs.NeverStuckLemmas.{never_stuck}
use Rattle.board_progress.proofs.progress.board_is_never_stuck.Goals as goal

pub returns : goal.returns
returns c = λ s h staff more. never_stuck c.args._board.now.board_shape s h staff more
