use Rattle.cycle_model.specs.Expected.{expected_samples}
use Rattle.graph_run.proofs.boards.board_of.Given as goal

abbrev pub ghosts-board_with : goal.ghosts-board_with
ghosts-board_with a = record { expect = expected_samples a.plan.now a.waves.now a.epoch }
