use Rattle.board_rule.proofs.activation.UntoldLemmas.{tell_falls, tell_stays}
use Rattle.board_rule.proofs.left.tell.Goals as goal

pub returns-clause-falls : goal.returns-clause-falls
returns-clause-falls c = tell_falls c.args._dependencies.now c.args.told.now c.args.m c.requires.ascend c.requires.inside c.requires.first

pub returns-clause-stays : goal.returns-clause-stays
returns-clause-stays c = tell_stays c.args._dependencies.now c.args.told.now c.args.m
