-- Of the links so far those that the epoch has.
use Rattle.std.proofs.Common.{take}
use Rattle.std.specs.Prelude.{filter}
use Rattle.std.specs.List.{AllZip}
use Rattle.graph_lines.specs.Epochs.{IsLinkOf}
use Rattle.graph_lines.specs.Gathering.{is_used_in}
use Rattle.graph_lines.proofs.graph.Graph.links_in.Given as goal

abbrev pub invariant-loop-wire : goal.invariant-loop-wire
invariant-loop-wire l = AllZip (IsLinkOf l.self) (filter (is_used_in l.self.nodes l.here) (take l.wire-index l.self.wires)) l.links
