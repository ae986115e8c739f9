-- Of the links so far those that are live.
use Rattle.std.proofs.Common.{◌≡◌, take}
use Rattle.graph_lines.specs.Activity.{live_wires}
use Rattle.graph_lines.proofs.shaping.activity.live_wires.Given as goal

abbrev pub invariant-loop-wire : goal.invariant-loop-wire
invariant-loop-wire l = l.live ≡ live_wires l.nodes (take l.wire-index l.wires)
