-- The samples of a quantum at each port of a node. Source: this project's own.
use Rattle.std.specs.Prelude.{◌≡◌, ℕ, ◌*◌}
use Rattle.node_state.specs.declared.node_state.NodeState.{NodeState}
use Rattle.node_state.specs.Slices.{first_channels, second_channels, left_channels, right_channels}
use Rattle.node_state.specs.StandsFor.{node_kind, node_wave_channels}

-- as many as the frames of a quantum and the channels of the port say
pub record HaveWidths (s : NodeState) (a b left right : ℕ) : Type 0 where
  pub a_is : a ≡ s.quantum * first_channels (node_kind s) s.channels
  pub b_is : b ≡ s.quantum * second_channels (node_kind s) s.channels
  pub left_is : left ≡ s.quantum * left_channels (node_kind s) (node_wave_channels s) s.channels
  pub right_is : right ≡ s.quantum * right_channels (node_kind s)
