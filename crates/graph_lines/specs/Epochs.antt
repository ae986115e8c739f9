-- The epoch that a `cycles` or `drain` line makes, read off the graph before that line.
-- Source: PipeWire's documentation, "Graph Scheduling"; the order of an epoch's links is this
-- project's.
use Rattle.std.specs.Prelude.{◌≡◌, ◌↔◌, ℕ, ◌==◌, ◌||◌, ◌&&◌, Bool, List, filter, All, AllPairs, Contains, IsTrue}
use Rattle.std.specs.List.{list_any, AllZip}
use Rattle.std.specs.List.Sorted.{IsStrictlyIncreasing}
use Rattle.pw_graph.specs.declared.ids.PortId.{PortId}
use Rattle.pw_graph.specs.declared.plan.Epoch.{Epoch}
use Rattle.pw_graph.specs.declared.shape.Shape.{Shape}
use Rattle.pw_graph.specs.declared.shape.ShapeLink.{ShapeLink}
use Rattle.pw_graph.specs.Dependencies.{nodes_of}
use Rattle.pw_graph.specs.Pools.{is_before}
use Rattle.pw_graph.specs.SoundShape.{IsCounted}
use Rattle.pw_graph.specs.PlanForms.{HasForm}
use Rattle.graph_lines.specs.declared.graph.Graph.{Graph}
use Rattle.graph_lines.specs.declared.standing.Standing.{Standing}
use Rattle.graph_lines.specs.declared.wire.Wire.{Wire}
use Rattle.graph_lines.specs.Activity.{standing, is_live, live_wires, IsDriver, IsActive}
use Rattle.graph_lines.specs.Forms.{FormIn}
use Rattle.graph_lines.specs.Fresh.{HasFresh}

-- a link is ASYNCHRONOUS where one of its nodes is marked
abbrev pub is_asynchronous : List Standing → Wire → Bool
is_asynchronous nodes w = (standing nodes w.from.node).marked || (standing nodes w.to.node).marked

-- a link is live, and both its nodes are active
abbrev pub has_node : Shape → ℕ → Bool
has_node shape n = list_any (λ m. m == n) (nodes_of shape)

abbrev pub is_used : Graph → Shape → Wire → Bool
is_used g shape w = is_live g.nodes w && (has_node shape w.from.node && has_node shape w.to.node)

-- a link of the graph as a link of the epoch: delayed just where it is asynchronous, with the
-- channels of its output
pub record IsLinkOf (g : Graph) (w : Wire) (l : ShapeLink) : Type 0 where
  pub from : l.from ≡ w.from
  pub to : l.to ≡ w.to
  pub buffers : l.buffers ≡ w.buffers
  pub delayed : l.delayed ≡ is_asynchronous g.nodes w
  pub rate : ℕ
  pub form : FormIn g.ports w.from rate l.channels

-- the active nodes, ascending, each with its required count and its targets
pub record HasActiveNodes (g : Graph) (shape : Shape) : Type 0 where
  pub driver : IsDriver g.kinds g.nodes shape.driver
  pub ascend : IsStrictlyIncreasing (nodes_of shape)
  pub active : (n : ℕ) → Contains (nodes_of shape) n
      ↔ IsActive (live_wires g.nodes g.wires) shape.driver n
  pub counts : All (IsCounted shape) shape.nodes

-- every form of a port of an active node, once each, ascending
pub record HasForms (g : Graph) (e : Epoch) : Type 0 where
  pub ascend : AllPairs (λ f h. IsTrue (is_before f.port h.port)) e.forms
  pub each : (port : PortId) (rate channels : ℕ) → HasForm e port rate channels
      ↔ (Contains (nodes_of e.shape) port.node × FormIn g.ports port rate channels)

-- EPOCH of this many cycles
pub record IsEpochOf (g : Graph) (many : ℕ) (e : Epoch) : Type 0 where
  pub quantum : e.shape.quantum ≡ g.quantum
  pub first : e.shape.first ≡ g.first
  pub cycles : e.shape.cycles ≡ many
  pub nodes : HasActiveNodes g e.shape
  pub links : AllZip (IsLinkOf g) (filter (is_used g e.shape) g.wires) e.shape.links
  pub forms : HasForms g e
  pub fresh : HasFresh g e
