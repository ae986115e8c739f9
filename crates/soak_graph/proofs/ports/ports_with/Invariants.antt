-- The nodes so far are those of the chains so far.
use Rattle.std.proofs.Common.{◌≡◌}
use Rattle.std.specs.Prelude.{flat_map}
use Rattle.std.specs.List.{range_with_len}
use Rattle.soak_graph.specs.SoakChains.{gain, delay}
use Rattle.soak_graph.specs.SoakPorts.{chain_nodes}
use Rattle.soak_graph.proofs.ports.ports_with.Given as goal

abbrev pub invariant-loop-i : goal.invariant-loop-i
invariant-loop-i l = l.ports ≡ flat_map (λ i. chain_nodes (gain l.fn.drawn.number i) (delay l.fn.drawn.number i)) (range_with_len 0 l.i)
