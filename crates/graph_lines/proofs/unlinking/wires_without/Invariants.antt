-- Of the links so far all but the one.
use Rattle.std.proofs.Common.{◌≡◌, take}
use Rattle.graph_lines.specs.UnlinkLines.{wires_without}
use Rattle.graph_lines.proofs.unlinking.wires_without.Given as goal

abbrev pub invariant-loop-wire : goal.invariant-loop-wire
invariant-loop-wire l = l.left ≡ wires_without l.from l.to (take l.wire-index l.wires)
