-- What an epoch is put together from: the active nodes as a row, and forms, links and fresh nodes
-- so far.
-- Source: this project's own.
use Rattle.std.specs.Prelude.{◌≡◌, ◌↔◌, ◌⊎◌, ℕ, ◌<◌, ◌&&◌, min, Bool, true, List, AllPairs, Contains, IsTrue, length, filter}
use Rattle.std.specs.List.{AllZip}
use Rattle.pw_graph.specs.declared.ids.PortId.{PortId}
use Rattle.pw_graph.specs.declared.plan.Fresh.{Fresh}
use Rattle.pw_graph.specs.declared.plan.PortForm.{PortForm}
use Rattle.pw_graph.specs.declared.shape.Shape.{Shape}
use Rattle.pw_graph.specs.Pools.{is_before}
use Rattle.wav_files.specs.declared.wav.WavIn.{WavIn}
use Rattle.port_model.specs.declared.port_state.Node.{Node}
use Rattle.graph_lines.specs.declared.epochs.ActiveNodes.{ActiveNodes}
use Rattle.graph_lines.specs.declared.graph.Graph.{Graph}
use Rattle.graph_lines.specs.declared.standing.Standing.{Standing}
use Rattle.graph_lines.specs.declared.wire.Wire.{Wire}
use Rattle.graph_lines.specs.Activity.{is_live, live_wires, IsDriver, IsActive}
use Rattle.graph_lines.specs.Draining.{DrainsFor}
use Rattle.graph_lines.specs.Epochs.{HasActiveNodes, IsLinkOf, is_used}
use Rattle.graph_lines.specs.Forms.{FormIn}
use Rattle.graph_lines.specs.Fresh.{ChannelsIn, IsFresh}
use Rattle.graph_lines.specs.Searching.{is_in}

-- the driver, and of each number whether that node is active
pub record IsActivityOf (g : Graph) (a : ActiveNodes) : Type 0 where
  pub long : length a.here ≡ 64
  pub driver : IsDriver g.kinds g.nodes a.driver
  pub active : (n : ℕ) → (is_in a.here n ≡ true)
      ↔ IsActive (live_wires g.nodes g.wires) a.driver n

-- a link is live, and both its nodes are in
abbrev pub is_used_in : List Standing → List Bool → Wire → Bool
is_used_in nodes here w = is_live nodes w && (is_in here w.from.node && is_in here w.to.node)

-- the shape of an epoch of this many cycles
pub record IsShapeOf (g : Graph) (many : ℕ) (shape : Shape) : Type 0 where
  pub quantum : shape.quantum ≡ g.quantum
  pub first : shape.first ≡ g.first
  pub cycles : shape.cycles ≡ many
  pub nodes : HasActiveNodes g shape
  pub links : AllZip (IsLinkOf g) (filter (is_used g shape) g.wires) shape.links

-- a port is before another one: its node is, or it is on the same node
abbrev pub IsEarlier : PortId → PortId → Type 0
IsEarlier p q = (p.node < q.node) ⊎ ((p.node ≡ q.node) × (p.port < q.port))

-- FORMS SO FAR: those of the ports before one, of the nodes that are in
pub record HasFormsBefore (ports : List Node) (here : List Bool) (end : PortId)
    (forms : List PortForm) : Type 0 where
  pub ascend : AllPairs (λ f h. IsTrue (is_before f.port h.port)) forms
  pub each : (port : PortId) (rate channels : ℕ)
      → Contains forms (record { port = port; rate = rate; channels = channels })
      ↔ ((is_in here port.node ≡ true) × IsEarlier port end × FormIn ports port rate channels)

-- all of them
pub record HasFormsOf (ports : List Node) (here : List Bool) (forms : List PortForm) : Type 0 where
  pub ascend : AllPairs (λ f h. IsTrue (is_before f.port h.port)) forms
  pub each : (port : PortId) (rate channels : ℕ)
      → Contains forms (record { port = port; rate = rate; channels = channels })
      ↔ ((is_in here port.node ≡ true) × FormIn ports port rate channels)

-- FRESH NODES among the first ones
pub record HasFreshBelow (g : Graph) (count : ℕ) (fresh : List Fresh) : Type 0 where
  pub ascend : AllPairs (λ x y. x.node < y.node) fresh
  pub each : (n channels : ℕ) → Contains fresh (record { node = n; channels = channels })
      ↔ ((n < count) × ChannelsIn g n channels × IsFresh g n channels)

-- the cycles of a `drain` line, of which those above a number are left out
abbrev pub DrainsUpTo : ℕ → List WavIn → Graph → ℕ → Type 0
DrainsUpTo most waves g cycles = (n : ℕ) × DrainsFor waves g n × (cycles ≡ min n most)
