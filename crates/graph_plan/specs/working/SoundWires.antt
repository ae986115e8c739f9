-- What the links of every graph of a script meet.
-- Source: this project's own.
use Rattle.std.specs.Prelude.{◌≡◌, ◌≢◌, ℕ, ◌≤◌, List, length, Some, All, AllPairs}
use Rattle.pw_lists.specs.Limits.{links_limit}
use Rattle.pw_graph.specs.declared.kind.Kind.{Kind}
use Rattle.pw_graph.specs.declared.ids.PortId.{PortId}
use Rattle.pw_graph.specs.SoundShape.{IsBetween}
use Rattle.format_filter.specs.declared.format.Format.{Format}
use Rattle.graph_script.specs.Kinds.{IsInput, IsOutput}
use Rattle.port_model.specs.declared.port_state.PortState.{PortState}
use Rattle.port_model.specs.declared.port_state.Node.{Node}
use Rattle.port_model.specs.PortState.{AtPort}
use Rattle.port_model.specs.Offers.{int_of}
use Rattle.port_model.specs.Forms.{value_at}
use Rattle.graph_lines.specs.declared.wire.Wire.{Wire}
use Rattle.port_model.specs.Keys.{rate_key, channels_key}

-- a port has a format of this rate and these channels
pub record HasFormatOf (rate channels : ℕ) (s : PortState) : Type 0 where
  pub format : Format
  pub has : s.format ≡ Some format
  pub rate_is : value_at format.fields rate_key ≡ Some (int_of rate)
  pub channels_is : value_at format.fields channels_key ≡ Some (int_of channels)

abbrev pub IsFormatted : List Node → PortId → ℕ → ℕ → Type 0
IsFormatted nodes port rate channels = AtPort nodes port (λ node s. HasFormatOf rate channels s)

-- a link from an output to an input of another node; both have a format, of one rate and channels
pub record IsSoundWire (kinds : List Kind) (nodes : List Node) (w : Wire) : Type 0 where
  pub from : IsOutput kinds w.from
  pub to : IsInput kinds w.to
  pub apart : w.from.node ≢ w.to.node
  pub buffers : IsBetween 1 8 w.buffers
  pub rate : ℕ
  pub channels : ℕ
  pub from_format : IsFormatted nodes w.from rate channels
  pub to_format : IsFormatted nodes w.to rate channels

-- two links do not have the same two ports
abbrev pub AreApart : Wire → Wire → Type 0
AreApart v w = ¬ ((v.from ≡ w.from) × (v.to ≡ w.to))

-- SOUND LINKS: at most 256
pub record AreSoundWires (kinds : List Kind) (nodes : List Node) (wires : List Wire) : Type 0 where
  pub few : length wires ≤ links_limit
  pub each : All (IsSoundWire kinds nodes) wires
  pub apart : AllPairs AreApart wires
