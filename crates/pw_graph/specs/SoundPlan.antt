-- A sound plan: its epochs follow one another, its shapes, nodes, links and forms agree, and the
-- sums of the limits are kept.
-- Source: this project's. What is asked of the waves of sources is in cycle_model.
use Rattle.std.specs.Prelude.{◌≡◌, ℕ, ◌+◌, ◌<◌, ◌≤◌, ◌⊎◌, List, [], ◌∷◌, length, All, Contains, slice_get, Some}
use Rattle.pw_graph.specs.declared.kind.Kind.TheVariants.{Sink}
use Rattle.pw_graph.specs.declared.ids.PortId.{PortId}
use Rattle.pw_graph.specs.declared.plan.Epoch.{Epoch}
use Rattle.pw_graph.specs.declared.plan.PlanNode.{PlanNode}
use Rattle.pw_graph.specs.declared.plan.Plan.{Plan}
use Rattle.pw_lists.specs.Limits.{dummy_node, events_limit, sink_samples_limit, block_bytes_limit}
use Rattle.pw_graph.specs.Dependencies.{nodes_of}
use Rattle.pw_graph.specs.Pools.{IsPooledShape}
use Rattle.pw_graph.specs.KindRanges.{IsInRange, IsRate, IsChannels, IsSinkOrMeter}
use Rattle.pw_graph.specs.PlanForms.{kind_at, HasForm, HasSoundForms}
use Rattle.pw_graph.specs.PlanFresh.{HasSoundFresh}
use Rattle.pw_graph.specs.PlanSums.{events_of, sink_samples_of, block_bytes_of}

-- the epochs follow one another, from this cycle on
abbrev pub FollowFrom : ℕ → List Epoch → Type 0
FollowFrom first [] = Unit {0}
FollowFrom first (e ∷ es) = (e.shape.first ≡ first) × FollowFrom (first + e.shape.cycles) es

-- a node's numbers are in range; its rate and channels are 0, or those that a sink or meter may end
-- with
pub record IsSoundNode (node : PlanNode) : Type 0 where
  pub kind : IsInRange node.kind
  pub kept : ((node.rate ≡ 0) × (node.channels ≡ 0))
      ⊎ (IsSinkOrMeter node.kind × IsRate node.rate × IsChannels node.channels)

-- an epoch's nodes are those of the plan, but for the dummy, which is there exactly where it
-- drives; else a sink or meter drives
pub record HasSoundPlaces (plan : Plan) (epoch : Epoch) : Type 0 where
  pub places : (n : ℕ) → Contains (nodes_of epoch.shape) n → ¬ (n ≡ dummy_node)
      → n < length plan.nodes
  pub dummy : Contains (nodes_of epoch.shape) dummy_node → epoch.shape.driver ≡ dummy_node
  pub driver : (epoch.shape.driver ≡ dummy_node)
      ⊎ IsSinkOrMeter (kind_at plan epoch.shape.driver)

-- a sink's form is the rate and channels that its node ends with
abbrev pub EndsWith : Plan → Epoch → Type 0
EndsWith plan epoch = (port : PortId) (rate channels : ℕ) (node : PlanNode)
    → HasForm epoch port rate channels
    → slice_get plan.nodes port.node ≡ Some node → node.kind ≡ Sink
    → (rate ≡ node.rate) × (channels ≡ node.channels)

pub record IsSoundEpoch (plan : Plan) (epoch : Epoch) : Type 0 where
  pub shape : IsPooledShape epoch.shape
  pub quantum : epoch.shape.quantum ≡ plan.quantum
  pub places : HasSoundPlaces plan epoch
  pub forms : HasSoundForms plan epoch
  pub ends : EndsWith plan epoch

-- SOUND PLAN
pub record IsSoundPlan (plan : Plan) : Type 0 where
  pub follow : FollowFrom 0 plan.epochs
  pub few : length plan.nodes ≤ dummy_node
  pub nodes : All IsSoundNode plan.nodes
  pub epochs : All (IsSoundEpoch plan) plan.epochs
  pub fresh : HasSoundFresh plan
  pub events : events_of plan ≤ events_limit
  pub samples : sink_samples_of plan ≤ sink_samples_limit
  pub bytes : block_bytes_of plan ≤ block_bytes_limit
