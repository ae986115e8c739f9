-- The graph before the first line is ready, and its lines are those of the script.
use Rattle.std.proofs.Common.{List, sym, subst}
use Rattle.graph_script.specs.declared.script.Line.{Line}
use Rattle.graph_lines.specs.Start.{MayStart, IsStart}
use Rattle.graph_plan.proofs.PlannedLemmas.{may_start, started_lines, started_names, channels_are, planned_from}
use Rattle.graph_plan.proofs.planning.whole_plan.Goals as goal

pub start-requires : goal.start-requires
start-requires c = subst (λ (ls : List Line). MayStart ls c.args.ports) (sym c.as_slice.ensures)
    (may_start c.args.script.now c.requires.script c.requires.kinds c.args.ports c.requires.ports)

pub plan_from-requires-clause-lines : goal.plan_from-requires-clause-lines
plan_from-requires-clause-lines c = started_lines c.args.script.now c.requires.script c.requires.kinds c.args.ports c.in-Ok.graph
    (subst (λ (ls : List Line). IsStart ls c.args.ports c.in-Ok.graph) c.as_slice.ensures c.in-Ok.ensures.start)

pub plan_from-requires-clause-named : goal.plan_from-requires-clause-named
plan_from-requires-clause-named c = started_names c.args.script.now c.requires.script c.requires.kinds c.args.ports c.in-Ok.graph
    (subst (λ (ls : List Line). IsStart ls c.args.ports c.in-Ok.graph) c.as_slice.ensures c.in-Ok.ensures.start)

pub plan_from-requires-clause-channels : goal.plan_from-requires-clause-channels
plan_from-requires-clause-channels c = channels_are c.args.script.now c.requires.script c.requires.kinds c.args.ports c.args.waves.now
    c.requires.ports c.requires.waves

pub returns-in-Ok : goal.returns-in-Ok
returns-in-Ok c = planned_from c.args.script.now.lines c.args.script.now.names c.args.waves.now c.args.ports c.in-Ok.graph c.plan_from.result
    (subst (λ (ls : List Line). IsStart ls c.args.ports c.in-Ok.graph) c.as_slice.ensures c.in-Ok.ensures.start) c.plan_from.ensures
