use Rattle.board_rule.specs.OnBoard.{layout}
use Rattle.board_progress.proofs.StartLemmas.{can_start}
use Rattle.board_progress.proofs.progress.new_boards_can_start.Goals as goal

pub returns : goal.returns
returns g c = can_start (layout c.args._board.now) _ c.args._driver.now.knows c.requires
