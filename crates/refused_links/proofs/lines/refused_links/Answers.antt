-- The graph before the first line is ready, and its lines are those of the script.
use Rattle.std.proofs.Common.{List, sym, subst}
use Rattle.graph_script.specs.declared.script.Line.{Line}
use Rattle.graph_lines.specs.Start.{MayStart, IsStart}
use Rattle.graph_plan.specs.Conditions.{AreLinesOf}
use Rattle.graph_plan.proofs.PlannedLemmas.{may_start, started_lines, channels_are}
use Rattle.refused_links.specs.Refused.{Refuses}
use Rattle.refused_links.proofs.OneAnswerLemmas.{refused_one}
use Rattle.refused_links.proofs.lines.refused_links.Goals as goal

pub start-requires : goal.start-requires
start-requires c = subst (λ (ls : List Line). MayStart ls c.args.ports) (sym c.as_slice.ensures)
    (may_start c.args.script.now c.requires.script c.requires.kinds c.args.ports c.requires.ports)

pub all_refused-requires-clause-lines : goal.all_refused-requires-clause-lines
all_refused-requires-clause-lines c = subst (λ (ls : List Line). AreLinesOf c.in_ok-graph.graph.kinds ls) (sym c.as_slice-2.ensures)
    (started_lines c.args.script.now c.requires.script c.requires.kinds c.args.ports c.in_ok-graph.graph
    (subst (λ (ls : List Line). IsStart ls c.args.ports c.in_ok-graph.graph) c.as_slice.ensures c.in_ok-graph.ensures.start))

pub all_refused-requires-clause-channels : goal.all_refused-requires-clause-channels
all_refused-requires-clause-channels c = channels_are c.args.script.now c.requires.script c.requires.kinds c.args.ports c.args.waves.now
    c.requires.ports c.requires.waves

pub returns-clause-only : goal.returns-clause-only
returns-clause-only c = λ made other h. refused_one c.args.script.now c.requires.script c.requires.kinds made c.args.ports c.requires.ports
    c.args.waves.now c.in_ok-refused.refused other (
      c.in_ok-graph.graph,
      subst (λ (ls : List Line). IsStart ls c.args.ports c.in_ok-graph.graph) c.as_slice.ensures c.in_ok-graph.ensures.start,
      subst (λ (ls : List Line). Refuses c.args.waves.now c.in_ok-graph.graph ls c.in_ok-refused.refused) c.as_slice-2.ensures
          c.in_ok-refused.ensures,
    ) h
