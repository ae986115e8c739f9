-- A line may be rehearsed, and one line more refuses its link.
use Rattle.std.proofs.Common.{refl, ◌∙◌}
use Rattle.graph_plan.proofs.FollowingLemmas.{may_step}
use Rattle.refused_links.proofs.LinesLemmas.{refused_begins, refused_more, refused_ends}
use Rattle.refused_links.proofs.lines.all_refused.Goals as goal

pub refused_by-requires-clause-line : goal.refused_by-requires-clause-line
refused_by-requires-clause-line c = λ g ready same. may_step g c.args.graph.kinds c.args.lines.now c.loop-line.line-index c.line-item.result ready
    (same ∙ c.loop-line.invariant.kinds) c.requires.lines c.loop-line-test.true c.line-item.is

pub loop-line-preserved : goal.loop-line-preserved
loop-line-preserved c = record {
  ready = c.in_ok-added.ensures.ready;
  kinds = c.in_ok-added.ensures.kinds ∙ c.loop-line.invariant.kinds;
  refused = refused_more c.args.waves.now c.args.graph c.loop-line.graph c.refused_by.new.graph c.args.lines.now c.loop-line.line-index
      c.line-item.result c.in_ok-added.added c.loop-line.refused c.append.new.refused c.loop-line-test.true c.line-item.is c.loop-line.invariant.refused
      c.in_ok-added.ensures.added c.in_ok-append.ensures;
}

pub loop-line-init : goal.loop-line-init
loop-line-init c = record {
  ready = c.requires.ready;
  kinds = refl;
  refused = refused_begins c.args.waves.now c.args.graph c.args.lines.now c.new-refused.result c.new-refused.ensures;
}

pub returns : goal.returns
returns c = refused_ends c.args.waves.now c.args.graph c.loop-line.graph c.args.lines.now c.loop-line.line-index c.loop-line.refused
    c.loop-line-test.false c.loop-line.invariant.refused
