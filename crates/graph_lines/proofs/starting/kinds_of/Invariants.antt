-- The kinds of the nodes that the lines so far make.
use Rattle.std.proofs.Common.{◌≡◌, take}
use Rattle.graph_lines.specs.Start.{kinds_of}
use Rattle.graph_lines.proofs.starting.kinds_of.Given as goal

abbrev pub invariant-loop-line : goal.invariant-loop-line
invariant-loop-line l = l.kinds ≡ kinds_of (take l.line-index l.lines)
