-- A sound shape: all its numbers are in range and agree with one another.
-- Source: PipeWire's documentation, "Graph Scheduling"; the ranges are this project's.
use Rattle.std.specs.Prelude.{◌≡◌, ℕ, ◌+◌, ◌*◌, ◌^◌, ◌≤◌, length, All, AllPairs, Contains}
use Rattle.std.specs.List.Sorted.{IsStrictlyIncreasing}
use Rattle.pw_graph.specs.declared.shape.Shape.{Shape}
use Rattle.pw_graph.specs.declared.shape.ShapeNode.{ShapeNode}
use Rattle.pw_graph.specs.declared.shape.ShapeLink.{ShapeLink}
use Rattle.pw_lists.specs.Limits.{dummy_node, links_limit, quantum_limit, channels_limit, buffers_limit, events_limit}
use Rattle.pw_graph.specs.LinkOrder.{HasOrder}
use Rattle.pw_graph.specs.Dependencies.{nodes_of, required_of, targets_of}

-- a number within both ends
abbrev pub IsBetween : ℕ → ℕ → ℕ → Type 0
IsBetween low high n = (low ≤ n) × (n ≤ high)

-- the nodes ascend, are numbers up to that of the dummy, and hold the driver
pub record HasSoundNodes (shape : Shape) : Type 0 where
  pub ascend : IsStrictlyIncreasing (nodes_of shape)
  pub numbers : All (λ n. n.node ≤ dummy_node) shape.nodes
  pub driver : Contains (nodes_of shape) shape.driver

-- a node's required count and targets are those of its dependencies
abbrev pub IsCounted : Shape → ShapeNode → Type 0
IsCounted shape n = (n.required ≡ required_of shape n.node)
    × (n.targets ≡ targets_of shape n.node)

-- a link joins two different active nodes, does not start at the driver, and has 1 to 8 channels
-- and buffers
pub record IsSoundLink (shape : Shape) (link : ShapeLink) : Type 0 where
  pub from_active : Contains (nodes_of shape) link.from.node
  pub to_active : Contains (nodes_of shape) link.to.node
  pub from_follower : ¬ (link.from.node ≡ shape.driver)
  pub ends : ¬ (link.from.node ≡ link.to.node)
  pub channels : IsBetween 1 channels_limit link.channels
  pub buffers : IsBetween 1 buffers_limit link.buffers

-- two links do not have the same two ports
abbrev pub AreApart : ShapeLink → ShapeLink → Type 0
AreApart k l = ¬ ((k.from ≡ l.from) × (k.to ≡ l.to))

-- not too many links, each sound, no two with the same two ports, and no loop
pub record HasSoundLinks (shape : Shape) : Type 0 where
  pub few : length shape.links ≤ links_limit
  pub each : All (IsSoundLink shape) shape.links
  pub apart : AllPairs AreApart shape.links
  pub order : HasOrder shape.links

-- an epoch of at least one cycle has a number of 32 bits for each cycle and a ticket for each of
-- its events
pub record HasSoundCycles (shape : Shape) : Type 0 where
  pub quantum : IsBetween 1 quantum_limit shape.quantum
  pub some : 1 ≤ shape.cycles
  pub events : shape.cycles * (2 * length shape.nodes + 3) ≤ events_limit
  pub numbers : shape.first + shape.cycles ≤ 2 ^ 32

-- SOUND SHAPE
pub record IsSoundShape (shape : Shape) : Type 0 where
  pub cycles : HasSoundCycles shape
  pub nodes : HasSoundNodes shape
  pub counts : All (IsCounted shape) shape.nodes
  pub links : HasSoundLinks shape
