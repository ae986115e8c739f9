use Rattle.board_rule.specs.Layout.{layout_of}
use Rattle.board_rule.proofs.buffers.SafetyLemmas.{are_safe}
use Rattle.board_rule.proofs.safety.buffers_are_safe.Goals as goal

pub returns : goal.returns
returns c = λ s h. are_safe (layout_of c.args._board.now.board_shape) s h
