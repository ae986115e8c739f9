-- The epochs of all parts are those that the line makes, and each part takes its own.
use Rattle.std.proofs.Common.{subst}
use Rattle.graph_plan.specs.working.Ahead.{AreJudged}
use Rattle.graph_plan.proofs.linked_parts.MovingTogetherLemmas.{moves_or_passes}
use Rattle.graph_plan.proofs.moving.move_all.Goals as goal

pub returns-in-Ok : goal.returns-in-Ok
returns-in-Ok c = moves_or_passes c.args.waves.now c.args.line.now c.args.members.now c.in-Ok.epochs c.go_all.new.members c.go_all.result
    (subst (AreJudged c.args.waves.now c.args.line.now c.args.members.now) c.in-Ok.is c.in_ok-epochs.ensures) c.go_all.ensures
