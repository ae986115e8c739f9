-- How many inputs and ports the nodes of a graph have.
-- Source: this project's own.
use Rattle.std.specs.Prelude.{◌≡◌, ℕ, List, length, slice_index}
use Rattle.port_model.specs.declared.port_state.Node.{Node}
use Rattle.port_model.specs.PortState.{port_count_of, input_count_of}

-- of each node its inputs, and all its ports
pub record AreCounted (nodes : List Node) (ins all : List ℕ) : Type 0 where
  pub ins_long : length ins ≡ length nodes
  pub all_long : length all ≡ length nodes
  pub inputs : (k : ℕ) → slice_index ins k ≡ input_count_of nodes k
  pub ports : (k : ℕ) → slice_index all k ≡ port_count_of nodes k
