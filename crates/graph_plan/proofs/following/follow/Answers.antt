-- A line may be done, and one line more is followed.
use Rattle.std.proofs.Common.{subst, ◌∙◌}
use Rattle.graph_lines.specs.declared.graph.Stepped.{Stepped}
use Rattle.graph_lines.specs.EpochLines.{Steps}
use Rattle.graph_plan.proofs.FollowingLemmas.{may_step, follow_stop, follow_more}
use Rattle.graph_plan.proofs.sound.StepLemmas.{step_kinds}
use Rattle.graph_plan.proofs.following.follow.Goals as goal

pub step-requires-clause-line : goal.step-requires-clause-line
step-requires-clause-line c = may_step c.loop-line.graph c.args.graph.kinds c.args.lines.now c.loop-line.line-index c.line-item.result
    c.loop-line.invariant.ready c.loop-line.invariant.kinds c.requires.lines c.loop-line-test.true c.line-item.is

pub returns-in-Ok-Passed-clause-followed : goal.returns-in-Ok-Passed-clause-followed
returns-in-Ok-Passed-clause-followed c = c.loop-line.invariant.rest _
    (follow_stop c.args.waves.now c.loop-line.graph c.args.lines.now c.loop-line.line-index c.line-item.result c.loop-line-test.true c.line-item.is
    c.in-Ok-Passed.which c.step.new.self
    (subst (λ (s : Stepped). Steps c.args.waves.now c.loop-line.graph c.line-item.result.command s c.step.new.self) c.in-Ok-Passed.field-0-is
    c.in-Ok-Passed.ensures.line))

pub loop-line-preserved : goal.loop-line-preserved
loop-line-preserved c =
    let s = subst (λ (s : Stepped). Steps c.args.waves.now c.loop-line.graph c.line-item.result.command s c.step.new.self) c.in-Ok-Done.field-0-is
    c.in-Ok-Done.ensures.line in
    record {
      ready = c.in-Ok-Done.ensures.sound c.in-Ok-Done.field-0-is;
      ran = c.in-Ok-Done.ensures.ran c.in-Ok-Done.field-0-is;
      kinds = step_kinds c.args.waves.now c.loop-line.graph c.step.new.self c.line-item.result.command s ∙ c.loop-line.invariant.kinds;
      rest = λ outcome f. c.loop-line.invariant.rest outcome (follow_more c.args.waves.now c.loop-line.graph c.args.lines.now c.loop-line.line-index
          c.line-item.result c.loop-line-test.true c.line-item.is c.step.new.self outcome s f);
    }
