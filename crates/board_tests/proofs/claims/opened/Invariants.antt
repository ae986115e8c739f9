use Rattle.board_rule.specs.buffers.SampleWords.{silence}
use Rattle.board_tests.proofs.claims.opened.Given as goal

abbrev pub ghosts-new : goal.ghosts-new
ghosts-new a = record { expect = silence a.shape.now }
