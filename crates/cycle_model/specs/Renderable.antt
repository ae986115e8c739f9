-- A plan that can be rendered: what the recursion of the cycle function needs. Source: this
-- project's own.
use Rattle.std.specs.Prelude.{◌≡◌, ◌<◌, ◌≤◌, ◌⊎◌, List, All, Contains, map, length}
use Rattle.pw_lists.specs.Limits.{nodes_limit, dummy_node}
use Rattle.pw_graph.specs.declared.shape.ShapeLink.{ShapeLink}
use Rattle.pw_graph.specs.declared.shape.ShapeNode.{ShapeNode}
use Rattle.pw_graph.specs.declared.plan.Epoch.{Epoch}
use Rattle.pw_graph.specs.declared.plan.Plan.{Plan}
use Rattle.pw_graph.specs.KindPorts.{input_count, port_count}
use Rattle.pw_graph.specs.KindRanges.{IsInRange}
pub use Rattle.pw_graph.specs.LinkOrder.{HasOrder}
pub use Rattle.pw_graph.specs.SoundPlan.{FollowFrom}
use Rattle.pw_graph.specs.PlanForms.{kind_at}
use Rattle.wav_files.specs.declared.wav.WavIn.{WavIn}
use Rattle.cycle_model.specs.Epochs.{channels_of}
use Rattle.cycle_model.specs.WavesFit.{WavesFit}

-- a link joins an output and an input of active nodes, both of the link's channels
pub record IsFitting (plan : Plan) (epoch : Epoch) (link : ShapeLink) : Type 0 where
  pub from_active : Contains (map (λ n. n.node) epoch.shape.nodes) link.from.node
  pub to_active : Contains (map (λ n. n.node) epoch.shape.nodes) link.to.node
  pub from_output : (input_count (kind_at plan link.from.node) ≤ link.from.port)
      × (link.from.port < port_count (kind_at plan link.from.node))
  pub to_input : link.to.port < input_count (kind_at plan link.to.node)
  pub from_form : channels_of epoch.forms link.from ≡ link.channels
  pub to_form : channels_of epoch.forms link.to ≡ link.channels

-- a node of a shape is a node of the plan, or the built-in driver
abbrev pub IsNodeOf : Plan → ShapeNode → Type 0
IsNodeOf plan node = (node.node < length plan.nodes) ⊎ (node.node ≡ dummy_node)

-- an epoch's shape has the plan's quantum and nodes, its links fit, and they have an order
pub record IsRenderableEpoch (plan : Plan) (epoch : Epoch) : Type 0 where
  pub quantum : epoch.shape.quantum ≡ plan.quantum
  pub nodes : All (IsNodeOf plan) epoch.shape.nodes
  pub links : All (IsFitting plan epoch) epoch.shape.links
  pub order : HasOrder epoch.shape.links

-- few enough nodes with numbers in range, epochs that follow one another from cycle 0 on and can
-- each be rendered, and a wave for each source
pub record IsRenderable (plan : Plan) (waves : List WavIn) : Type 0 where
  pub few : length plan.nodes ≤ nodes_limit
  pub ranges : All (λ n. IsInRange n.kind) plan.nodes
  pub numbered : FollowFrom 0 plan.epochs
  pub epochs : All (IsRenderableEpoch plan) plan.epochs
  pub sources : WavesFit plan waves
