-- A pass, as far as it has got.
use Rattle.graph_lines.proofs.ActivityLemmas.{IsSpread}
use Rattle.graph_lines.proofs.shaping.activity.spread.Given as goal

abbrev pub invariant-loop-wire : goal.invariant-loop-wire
invariant-loop-wire l = IsSpread l.live l.fn.here l.here l.more l.wire-index
