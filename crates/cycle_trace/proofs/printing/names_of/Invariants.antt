use Rattle.std.proofs.Common.{◌≡◌, take, map}
use Rattle.cycle_trace.proofs.printing.names_of.Given as goal

abbrev pub invariant-loop-node : goal.invariant-loop-node
invariant-loop-node l = l.names ≡ map (λ n. n.name) (take l.node-index l.nodes)
