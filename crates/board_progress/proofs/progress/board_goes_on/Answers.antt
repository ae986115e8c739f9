use Rattle.board_progress.proofs.GoesOnLemmas.{goes_on, loses_nothing}
use Rattle.board_progress.proofs.progress.board_goes_on.Goals as goal

pub returns-clause-advances : goal.returns-clause-advances
returns-clause-advances c = λ s h fits staff more. goes_on c.args._board.now.board_shape s h fits staff more

pub returns-clause-vain : goal.returns-clause-vain
returns-clause-vain c = λ s h fits staff. loses_nothing c.args._board.now.board_shape s h fits staff
