use Rattle.board_progress.proofs.EndLemmas.{end_reached}
use Rattle.board_progress.proofs.progress.end_is_reached.Goals as goal

pub returns : goal.returns
returns c = λ s h fits staff. end_reached c.args._board.now.board_shape s h fits staff
