-- The ports of a number's graph: each node's as its kind has them; a source's are those of a mono
-- wave at 48000. This project's own graph.
use Rattle.std.specs.Prelude.{ℕ, List, [], ◌∷◌, ◌++◌, flat_map, ℤ}
use Rattle.std.specs.List.{range_with_len}
use Rattle.pw_graph.specs.declared.kind.Kind.TheVariants as K
use Rattle.port_model.specs.declared.port_state.Node.{Node}
use Rattle.port_model.specs.Offers.{new_node}
use Rattle.soak_graph.specs.SoakChains.{chains, gain, delay}

-- the nodes of a chain with this gain and this delay
abbrev pub chain_nodes : ℤ → ℕ → List Node
chain_nodes g d =
    new_node K.Source 48000 1 ∷ new_node (K.Gain g) 0 0 ∷ new_node (K.Delay d) 0 0 ∷ []

-- all nodes, by the gains and the delays
abbrev pub all_nodes : (ℕ → ℤ) → (ℕ → ℕ) → List Node
all_nodes gains delays =
    flat_map (λ i. chain_nodes (gains i) (delays i)) (range_with_len 0 chains)
    ++ new_node K.Sink 0 0 ∷ new_node K.Meter 0 0 ∷ []

-- THE PORTS of a number
abbrev pub soak_ports : ℕ → List Node
soak_ports number = all_nodes (gain number) (delay number)
