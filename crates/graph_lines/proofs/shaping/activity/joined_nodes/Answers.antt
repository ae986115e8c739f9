use Rattle.graph_lines.proofs.ActivityLemmas.{search_begins, search_goes_on, all_in}
use Rattle.graph_lines.proofs.shaping.activity.joined_nodes.Goals as goal

pub passes-init : goal.passes-init
passes-init c = search_begins c.args.live.now c.args.node c.only-here.result c.requires.node c.only-here.ensures

pub passes-preserved : goal.passes-preserved
passes-preserved c = search_goes_on c.args.live.now c.args.node c.passes.here c.spread-more.new.here c.passes.more c.spread-more.result
    c.passes.invariant c.spread-more.ensures.spreads c.spread-more.ensures.more

pub returns : goal.returns
returns c n = (
  c.passes.invariant.joined n,
  all_in c.args.live.now c.args.node n c.passes.here c.passes.invariant.start (c.passes.invariant.closed c.passes-test.false),
)
