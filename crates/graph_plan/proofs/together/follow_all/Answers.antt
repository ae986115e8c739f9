-- A line may be done, and one line more is followed.
use Rattle.std.proofs.Common.{List, [], ◌∷◌, sym, subst, ◌∙◌}
use Rattle.pw_graph.specs.declared.kind.Kind.{Kind}
use Rattle.graph_lines.specs.declared.graph.Stepped.{Stepped}
use Rattle.graph_plan.specs.Conditions.{AreLinesOf}
use Rattle.graph_plan.specs.working.MovingTogether.{StepsTogether}
use Rattle.graph_plan.proofs.linked_parts.TogetherLemmas.{line_here, together_more, together_stop}
use Rattle.graph_plan.proofs.together.follow_all.Goals as goal

pub step-requires-clause-line : goal.step-requires-clause-line
step-requires-clause-line c = subst (λ (ks : List Kind). AreLinesOf ks (c.line-item.result ∷ [])) (sym c.loop-line.invariant.kinds)
    (line_here c.args.together.whole.kinds c.args.lines.now c.loop-line.line-index c.line-item.result c.requires.lines c.loop-line-test.true c.line-item.is)

pub returns-in-Ok-Passed-clause-followed : goal.returns-in-Ok-Passed-clause-followed
returns-in-Ok-Passed-clause-followed c = c.loop-line.invariant.rest _
    (together_stop c.args.waves.now c.loop-line.together c.args.lines.now c.loop-line.line-index c.line-item.result c.loop-line-test.true c.line-item.is
    c.in-Ok-Passed.which
    (subst (λ (s : Stepped). StepsTogether c.args.waves.now c.loop-line.together c.line-item.result s c.step.new.self) c.in-Ok-Passed.field-0-is
    c.in-Ok-Passed.ensures.line))

pub loop-line-preserved : goal.loop-line-preserved
loop-line-preserved c =
    let s = subst (λ (s : Stepped). StepsTogether c.args.waves.now c.loop-line.together c.line-item.result s c.step.new.self) c.in-Ok-Done.field-0-is
    c.in-Ok-Done.ensures.line in
    record {
      ready = c.in-Ok-Done.ensures.ready c.in-Ok-Done.field-0-is;
      kinds = c.in-Ok-Done.ensures.kinds c.in-Ok-Done.field-0-is ∙ c.loop-line.invariant.kinds;
      rest = λ outcome f. c.loop-line.invariant.rest outcome (together_more c.args.waves.now c.loop-line.together c.args.lines.now c.loop-line.line-index
          c.line-item.result c.loop-line-test.true c.line-item.is c.step.new.self outcome s f);
    }
