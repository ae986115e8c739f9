-- What a graph remembers of the epochs so far: forms that hold, what was noted last, and sinks.
-- Source: this project's own.
use Rattle.std.specs.Prelude.{◌≡◌, ℕ, ◌<◌, true, false, List, length, IsSome, slice_index_or}
use Rattle.pw_graph.specs.declared.ids.PortId.{PortId}
use Rattle.pw_graph.specs.declared.kind.Kind.{Kind}
use Rattle.pw_graph.specs.declared.kind.Kind.TheVariants.{Dummy, Sink}
use Rattle.pw_graph.specs.declared.plan.Epoch.{Epoch}
use Rattle.pw_graph.specs.declared.plan.Plan.{Plan}
use Rattle.pw_graph.specs.PlanForms.{kind_at, HasForm}
use Rattle.pw_graph.specs.PlanFresh.{IsEpoch, Names, KeepsForms, KeepsSinks, IsTold}
use Rattle.port_model.specs.declared.port_state.Node.{Node}
use Rattle.port_model.specs.PortState.{IsPort, AtPort}
use Rattle.graph_lines.specs.declared.standing.Standing.{Standing}
use Rattle.graph_lines.specs.Activity.{standing}
use Rattle.graph_lines.specs.Forms.{FormIn}

-- a plan that has this quantum and nodes of these kinds
pub record IsLike (quantum : ℕ) (kinds : List Kind) (plan : Plan) : Type 0 where
  pub quantum_is : plan.quantum ≡ quantum
  pub count : length plan.nodes ≡ length kinds
  pub kind : (n : ℕ) → kind_at plan n ≡ slice_index_or kinds n Dummy

-- no epoch after this one names a node
abbrev pub IsQuietFrom : Plan → ℕ → ℕ → Type 0
IsQuietFrom plan i node = (k channels : ℕ) → i < k → ¬ Names plan k node channels

-- some port of the node has its format
pub record HasSomeFormat (nodes : List Node) (n : ℕ) : Type 0 where
  pub port : ℕ
  pub there : IsPort nodes (record { node = n; port = port })
  pub has : AtPort nodes (record { node = n; port = port }) (λ node s. IsSome s.format)

-- a form of an epoch still holds, and its node has a format
pub record Stands (nodes : List Node) (port : PortId) (rate channels : ℕ) : Type 0 where
  pub form : FormIn nodes port rate channels
  pub some : HasSomeFormat nodes port.node

-- the last epoch that names a node has what was noted of it last
pub record IsLastNaming (plan : Plan) (node told : ℕ) : Type 0 where
  pub epoch : ℕ
  pub names : Names plan epoch node told
  pub last : IsQuietFrom plan epoch node

-- REMEMBERS: forms hold until their node is named or gives up; the laws on forms are kept
pub record Remembers (plan : Plan) (nodes : List Node) (said : List Standing) : Type 0 where
  pub kept : (i : ℕ) (e : Epoch) (port : PortId) (rate channels : ℕ) → IsEpoch plan i e
      → HasForm e port rate channels → IsQuietFrom plan i port.node
      → (standing said port.node).gave_up ≡ false → Stands nodes port rate channels
  pub last : (n : ℕ) → 0 < (standing said n).told → IsLastNaming plan n (standing said n).told
  pub forms : KeepsForms plan
  pub told : IsTold plan

-- a sink that had a form keeps it
pub record KeepsIt (nodes : List Node) (said : List Standing) (port : PortId) (rate channels : ℕ)
    : Type 0 where
  pub there : (standing said port.node).there ≡ true
  pub kept : (standing said port.node).kept ≡ true
  pub quiet : (standing said port.node).gave_up ≡ false
  pub told : (standing said port.node).told ≡ channels
  pub form : Stands nodes port rate channels

pub record RemembersSinks (plan : Plan) (nodes : List Node) (said : List Standing) : Type 0 where
  pub forms : (i : ℕ) (e : Epoch) (port : PortId) (rate channels : ℕ) → IsEpoch plan i e
      → kind_at plan port.node ≡ Sink → HasForm e port rate channels
      → KeepsIt nodes said port rate channels
  pub sinks : KeepsSinks plan

-- what a line without an epoch leaves of a node: its forms, unless it gives up; kept sinks do not
pub record CarriesOn (nodes : List Node) (said : List Standing) (nodes' : List Node)
    (said' : List Standing) (n : ℕ)
    : Type 0 where
  pub told : (standing said' n).told ≡ (standing said n).told
  pub there : (standing said n).there ≡ true → (standing said' n).there ≡ true
  pub kept : (standing said n).kept ≡ true → (standing said' n).kept ≡ true
  pub quiet : (standing said' n).gave_up ≡ false → (standing said n).gave_up ≡ false
  pub stands : (standing said' n).gave_up ≡ false → (port rate channels : ℕ)
      → Stands nodes (record { node = n; port = port }) rate channels
      → Stands nodes' (record { node = n; port = port }) rate channels
  pub held : (standing said n).kept ≡ true → (standing said n).gave_up ≡ false
      → (standing said' n).gave_up ≡ false
