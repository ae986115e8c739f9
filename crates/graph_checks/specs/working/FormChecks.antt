-- Nodes and forms one by one, as a checker goes through an epoch; `PlanForms` and `SoundPlan` say
-- the same of the whole.
-- Source: this project's.
use Rattle.std.specs.Prelude.{◌≡◌, ℕ, ◌<◌, ◌⊎◌, length, Contains, Some, slice_get}
use Rattle.pw_graph.specs.declared.ids.PortId.{PortId}
use Rattle.pw_graph.specs.declared.shape.ShapeNode.{ShapeNode}
use Rattle.pw_graph.specs.declared.plan.Epoch.{Epoch}
use Rattle.pw_graph.specs.declared.plan.Plan.{Plan}
use Rattle.pw_graph.specs.declared.plan.PlanNode.{PlanNode}
use Rattle.pw_graph.specs.declared.plan.PortForm.{PortForm}
use Rattle.pw_graph.specs.declared.kind.Kind.TheVariants.{Sink}
use Rattle.pw_lists.specs.Limits.{dummy_node}
use Rattle.pw_graph.specs.Dependencies.{nodes_of}
use Rattle.pw_graph.specs.KindPorts.{port_count}
use Rattle.pw_graph.specs.KindRanges.{IsSinkOrMeter}
use Rattle.pw_graph.specs.PlanForms.{kind_at, HasForm}

-- an epoch has some form of the port
abbrev pub HasSomeForm : Epoch → PortId → Type 0
HasSomeForm epoch port = (rate : ℕ) × (channels : ℕ) × HasForm epoch port rate channels

-- two ports have forms of one rate, with these channels
abbrev pub HasBothForms : Epoch → PortId → PortId → ℕ → Type 0
HasBothForms epoch from to channels = (rate : ℕ) × HasForm epoch from rate channels
    × HasForm epoch to rate channels

-- a node has forms for all its ports
pub record HasAllForms (plan : Plan) (epoch : Epoch) (node : ℕ) : Type 0 where
  pub ports : (port : ℕ) → port < port_count (kind_at plan node)
      → HasSomeForm epoch (record { node = node; port = port })

-- a node is the driver, or has forms for all its ports
pub record IsWhole (plan : Plan) (epoch : Epoch) (n : ShapeNode) : Type 0 where
  pub follower : ¬ (n.node ≡ epoch.shape.driver) → HasAllForms plan epoch n.node

-- a node is one of the plan's, or the dummy
pub record IsPlace (plan : Plan) (n : ShapeNode) : Type 0 where
  pub place : ¬ (n.node ≡ dummy_node) → n.node < length plan.nodes

-- the dummy drives where it is there
pub record HasSoundDummy (epoch : Epoch) : Type 0 where
  pub drives : Contains (nodes_of epoch.shape) dummy_node → epoch.shape.driver ≡ dummy_node

-- the dummy drives, or a sink or meter
pub record HasSoundDriver (plan : Plan) (epoch : Epoch) : Type 0 where
  pub either : (epoch.shape.driver ≡ dummy_node)
      ⊎ IsSinkOrMeter (kind_at plan epoch.shape.driver)

-- a form, if of a sink, is the rate and channels that its node ends with
pub record IsEnded (plan : Plan) (form : PortForm) : Type 0 where
  pub ends : (node : PlanNode) → slice_get plan.nodes form.port.node ≡ Some node
      → node.kind ≡ Sink
      → (form.rate ≡ node.rate) × (form.channels ≡ node.channels)
