use Rattle.board_rule.proofs.activation.UntoldLemmas.{all_left}
use Rattle.board_rule.proofs.buffers.AreaLemmas.{finds_need}
use Rattle.board_rule.proofs.left.left_at_start.Goals as goal

pub returns : goal.returns
returns c = let z = finds_need in all_left c.args.dependencies.now
