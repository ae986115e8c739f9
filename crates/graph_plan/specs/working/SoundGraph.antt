-- What makes every plan sound: what the graph meets before and after each line of a script.
-- Source: this project's own.
use Rattle.std.specs.Prelude.{◌≡◌, ℕ, ◌<◌, ◌≤◌, true, List, length, Some, All, AllPairs}
use Rattle.pw_graph.specs.declared.kind.Kind.{Kind}
use Rattle.pw_graph.specs.declared.plan.Epoch.{Epoch}
use Rattle.pw_graph.specs.declared.plan.LinkLine.{LinkLine}
use Rattle.pw_graph.specs.declared.plan.Plan.{Plan}
use Rattle.pw_lists.specs.Limits.{quantum_limit}
use Rattle.pw_graph.specs.Pools.{IsPooledShape}
use Rattle.pw_graph.specs.PlanForms.{HasSoundForms}
use Rattle.pw_graph.specs.PlanFresh.{IsSoundFresh}
use Rattle.pw_graph.specs.SoundPlan.{HasSoundPlaces}
use Rattle.pw_graph.specs.SoundShape.{IsBetween}
use Rattle.graph_script.specs.Kinds.{IsInput, IsOutput}
use Rattle.port_model.specs.declared.port_state.Node.{Node}
use Rattle.port_model.specs.SoundPorts.{AreSoundNodes}
use Rattle.link_negotiation.specs.Links.{is_marked}
use Rattle.graph_lines.specs.declared.graph.Graph.{Graph}
use Rattle.graph_lines.specs.declared.standing.Standing.{Standing}
use Rattle.graph_lines.specs.declared.wire.Wire.{Wire}
use Rattle.graph_lines.specs.Activity.{standing}
use Rattle.graph_lines.specs.Conditions.{AreWired}
use Rattle.graph_lines.specs.Forms.{HasKinds}
use Rattle.graph_plan.specs.working.Reaching.{IsOrdered}
use Rattle.graph_plan.specs.working.SoundWires.{AreSoundWires}
use Rattle.graph_plan.specs.working.Summing.{AreSummed}
use Rattle.graph_plan.specs.working.Remembering.{IsLike, Remembers, RemembersSinks}

-- lines have made `count` nodes: they are there, and links and priorities are theirs
pub record AreMade (count : ℕ) (said : List Standing) (wires : List Wire) : Type 0 where
  pub within : count ≤ length said
  pub there : (n : ℕ) → n < count → (standing said n).there ≡ true
  pub wires_at : All (λ w. (w.from.node < count) × (w.to.node < count)) wires
  pub prior : (n p : ℕ) → (standing said n).priority ≡ Some p → n < count

-- an epoch of a plan is sound by itself
pub record IsSoundPart (plan : Plan) (e : Epoch) : Type 0 where
  pub shape : IsPooledShape e.shape
  pub quantum : e.shape.quantum ≡ plan.quantum
  pub places : HasSoundPlaces plan e
  pub forms : HasSoundForms plan e
  pub ascend : AllPairs (λ x y. x.node < y.node) e.fresh
  pub fresh : All (IsSoundFresh plan) e.fresh

-- what is remembered of the epochs of a plan
pub record IsPast (plan : Plan) (nodes : List Node) (said : List Standing) : Type 0 where
  pub forms : Remembers plan nodes said
  pub sinks : RemembersSinks plan nodes said

-- a line joins an output to an input
abbrev pub IsJoining : List Kind → LinkLine → Type 0
IsJoining kinds l = IsOutput kinds l.from × IsInput kinds l.to

-- SOUND GRAPH, of `count` nodes that lines have made
pub record IsSoundGraph (count : ℕ) (g : Graph) : Type 0 where
  pub quantum : IsBetween 1 quantum_limit g.quantum
  pub ports : AreSoundNodes g.ports
  pub kinds : HasKinds g.ports g.kinds
  pub nodes : length g.nodes ≡ length g.kinds
  pub made : AreMade count g.nodes g.wires
  pub wires : AreSoundWires g.kinds g.ports g.wires
  pub wired : AreWired g
  pub marks : length g.links.marks ≡ 64
  pub marked : (n : ℕ) → is_marked g.links n ≡ (standing g.nodes n).marked
  pub order : IsOrdered g.links
  pub sums : AreSummed g.quantum g.kinds g.epochs g.first g.sums
  pub parts : (plan : Plan) → IsLike g.quantum g.kinds plan → All (IsSoundPart plan) g.epochs
  pub past : (plan : Plan) → IsLike g.quantum g.kinds plan → plan.epochs ≡ g.epochs
      → IsPast plan g.ports g.nodes
  pub lines : All (IsJoining g.kinds) g.lines
