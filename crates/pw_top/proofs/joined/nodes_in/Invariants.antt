-- The nodes so far.
use Rattle.std.proofs.Common.{◌≡◌}
use Rattle.std.specs.Prelude.{filter_map}
use Rattle.std.specs.List.{range_with_len}
use Rattle.pw_top.specs.Joined.{node_in}
use Rattle.pw_top.proofs.joined.nodes_in.Given as goal

abbrev pub invariant-loop-node : goal.invariant-loop-node
invariant-loop-node l = l.nodes ≡ filter_map (node_in l.parts) (range_with_len 0 l.node)
