-- Sound ports: what holds of the ports that a script has made, whatever it said.
-- Source: this project's own.
use Rattle.std.specs.Prelude.{◌≡◌, ℕ, ◌≤◌, List, Some, None, true, length, slice_get, IfSome}
use Rattle.pw_lists.specs.Limits.{nodes_limit}
use Rattle.std.specs.List.{All}
use Rattle.pod_codec.specs.declared.pod.Pod.{Pod}
use Rattle.pw_graph.specs.declared.kind.Kind.{Kind}
use Rattle.pw_graph.specs.KindPorts.{port_count}
use Rattle.pw_graph.specs.KindRanges.{IsInRange}
use Rattle.pw_graph.specs.SoundShape.{IsBetween}
use Rattle.format_filter.specs.declared.format.Format.{Format}
use Rattle.port_model.specs.declared.port_state.PortState.{PortState}
use Rattle.port_model.specs.declared.port_state.Node.{Node}
use Rattle.port_model.specs.Offers.{is_shared_key}
use Rattle.port_model.specs.Forms.{value_at, shared_value}
pub use Rattle.port_model.specs.SoundOffers.{IsNumber, Admits, IsOwnOffer, IsWithin, IsTaken}

pub record IsSoundPort (kind : Kind) (port : ℕ) (s : PortState) : Type 0 where
  pub own : IsOwnOffer kind port s.own
  pub format : IfSome s.format (IsTaken s.own)
  pub buffers : IfSome s.buffers (IsBetween 1 8)

-- ports of a node agree at the keys that they share
abbrev pub Agree : Kind → PortState → PortState → Type 0
Agree kind s t = (f g : Format) (key : ℕ) → s.format ≡ Some f → t.format ≡ Some g
    → is_shared_key kind key ≡ true
    → value_at f.fields key ≡ value_at g.fields key

pub record IsSoundNode (node : Node) : Type 0 where
  pub kind : IsInRange node.kind
  pub count : length node.ports ≡ port_count node.kind
  pub ports : (i : ℕ) (s : PortState) → slice_get node.ports i ≡ Some s
      → IsSoundPort node.kind i s
  pub agree : (i j : ℕ) (s t : PortState) → slice_get node.ports i ≡ Some s
      → slice_get node.ports j ≡ Some t
      → Agree node.kind s t

-- SOUND PORTS: at most 63 nodes, each sound
pub record AreSoundNodes (nodes : List Node) : Type 0 where
  pub few : length nodes ≤ nodes_limit
  pub each : All IsSoundNode nodes

-- a port without a format may take one: it is within the own offer, and has the values that the
-- node shares
pub record MayTake (format : Format) (node : Node) (s : PortState) : Type 0 where
  pub free : s.format ≡ None
  pub taken : IsTaken s.own format
  pub shared : (key : ℕ) (value : Pod) → shared_value node key ≡ Some value
      → value_at format.fields key ≡ Some value
