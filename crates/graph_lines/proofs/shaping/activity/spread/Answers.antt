use Rattle.graph_lines.proofs.ActivityLemmas.{spread_same, spread_more}
use Rattle.graph_lines.proofs.shaping.activity.spread.Goals as goal
use Rattle.graph_lines.proofs.shaping.activity.spread.Goals.{then-take_in, else-take_in}
use Rattle.std.proofs.Common.{sym, subst, ◌+◌}
use Rattle.std.specs.Prelude.{Bool}
use Rattle.graph_lines.proofs.ActivityLemmas.{IsSpread}

pub loop-wire-preserved : goal.loop-wire-preserved
loop-wire-preserved c = elim c.if-take_in.branch [
  | then-take_in w ↦ subst (λ (more : Bool). IsSpread c.args.live.now c.args.here.now c.take_in.new.here more (c.loop-wire.wire-index + 1)) (sym w.more-is)
      (spread_more c.args.live.now c.args.here.now c.loop-wire.here c.take_in.new.here c.loop-wire.more c.loop-wire.wire-index _
      c.loop-wire-test.true c.loop-wire.invariant (c.take_in.ensures.one w.if-take_in.true))
  | else-take_in w ↦ subst (λ (more : Bool). IsSpread c.args.live.now c.args.here.now c.take_in.new.here more (c.loop-wire.wire-index + 1)) (sym w.more-is)
      (spread_same c.args.live.now c.args.here.now c.loop-wire.here c.take_in.new.here c.loop-wire.more c.loop-wire.wire-index _
      c.loop-wire-test.true c.loop-wire.invariant (c.take_in.ensures.none w.if-take_in.false) (c.take_in.ensures.closed w.if-take_in.false))
]
