-- What every graph between two lines meets, so that the next line can be done.
-- Source: this project's own.
use Rattle.std.specs.Prelude.{◌≡◌, ℕ, ◌*◌, ◌≤◌, List, map, length, All, IsSome}
use Rattle.pw_graph.specs.declared.ids.PortId.{PortId}
use Rattle.pw_graph.specs.declared.kind.Kind.{Kind}
use Rattle.pw_lists.specs.Limits.{quantum_limit, buffers_limit, events_limit}
use Rattle.pw_graph.specs.SoundShape.{IsBetween}
use Rattle.port_model.specs.declared.port_state.Node.{Node}
use Rattle.port_model.specs.PortState.{IsInput, IsOutput, AtPort}
use Rattle.port_model.specs.SoundPorts.{AreSoundNodes}
use Rattle.link_negotiation.specs.Links.{LinkState, link_of, is_marked}
use Rattle.graph_lines.specs.declared.graph.Graph.{Graph}
use Rattle.graph_lines.specs.declared.limits.Sums.{Sums}
use Rattle.graph_lines.specs.declared.standing.Standing.{Standing}
use Rattle.graph_lines.specs.declared.wire.Wire.{Wire}
use Rattle.graph_lines.specs.Activity.{standing}
use Rattle.graph_lines.specs.Forms.{HasKinds}

-- a port has its format
abbrev pub HasFormat : List Node → PortId → Type 0
HasFormat nodes port = AtPort nodes port (λ node s. IsSome s.format)

-- a link goes from an output to an input, both have a format, and it has 1 to 8 buffers
pub record IsReadyWire (nodes : List Node) (w : Wire) : Type 0 where
  pub output : IsOutput nodes w.from
  pub input : IsInput nodes w.to
  pub from : HasFormat nodes w.from
  pub to : HasFormat nodes w.to
  pub buffers : IsBetween 1 buffers_limit w.buffers

-- the nodes are as many as their kinds, and their ports are of these kinds, and sound
pub record HasReadyNodes (said : List Standing) (own : List Kind) (nodes : List Node) : Type 0 where
  pub many : length said ≡ length own
  pub kinds : HasKinds nodes own
  pub ports : AreSoundNodes nodes

-- the links are those of the wires, each of them sound
pub record HasReadyWires (nodes : List Node) (links : LinkState) (wires : List Wire) : Type 0 where
  pub wired : map (λ w. link_of w.from w.to) wires ≡ links.made
  pub each : All (IsReadyWire nodes) wires

-- a node is marked just where its links are
pub record HasReadyMarks (said : List Standing) (links : LinkState) : Type 0 where
  pub many : length links.marks ≡ 64
  pub same : (n : ℕ) → (standing said n).marked ≡ is_marked links n

-- each cycle had at least three events
pub record HasReadyCounts (frames next : ℕ) (sums : Sums) : Type 0 where
  pub quantum : IsBetween 1 quantum_limit frames
  pub events : 3 * next ≤ sums.events
  pub limit : sums.events ≤ events_limit

-- READY for the next line
pub record IsReady (g : Graph) : Type 0 where
  pub nodes : HasReadyNodes g.nodes g.kinds g.ports
  pub wires : HasReadyWires g.ports g.links g.wires
  pub marks : HasReadyMarks g.nodes g.links
  pub counts : HasReadyCounts g.quantum g.first g.sums

-- no node ran in more cycles than there were, so that the next epoch can be taken
pub record HasRan (g : Graph) : Type 0 where
  pub within : (n : ℕ) → (standing g.nodes n).ran ≤ g.first
