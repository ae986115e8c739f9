-- Fresh nodes and kept forms epoch by epoch, as a checker goes through a plan; `PlanFresh` says the
-- same of the whole.
-- Source: this project's.
use Rattle.std.specs.Prelude.{◌≡◌, ℕ, ◌<◌, ◌≤◌, length, All, AllPairs, Contains}
use Rattle.pw_graph.specs.declared.kind.Kind.TheVariants.{Sink}
use Rattle.pw_graph.specs.declared.plan.Epoch.{Epoch}
use Rattle.pw_graph.specs.declared.plan.Plan.{Plan}
use Rattle.pw_graph.specs.declared.plan.PortForm.{PortForm}
use Rattle.pw_graph.specs.KindPorts.{input_count}
use Rattle.pw_graph.specs.KindRanges.{MayHaveChannels}
use Rattle.pw_graph.specs.PlanForms.{kind_at}
use Rattle.pw_graph.specs.PlanFresh.{IsEpoch, Names, StaysFrom, IsSoundFresh}

-- a node has an input, and the first one may have these channels
abbrev pub HasFirstInput : Plan → ℕ → ℕ → Type 0
HasFirstInput plan node channels = (0 < input_count (kind_at plan node))
    × MayHaveChannels (kind_at plan node) 0 channels

-- the entries of an epoch ascend and name places of nodes
pub record NamesWell (plan : Plan) (epoch : Epoch) : Type 0 where
  pub ascend : AllPairs (λ x y. x.node < y.node) epoch.fresh
  pub each : All (IsSoundFresh plan) epoch.fresh

-- the entries of an epoch name the node, with these channels or some
abbrev pub HasEntry : Epoch → ℕ → ℕ → Type 0
HasEntry epoch node channels = Contains epoch.fresh (record { node = node; channels = channels })

abbrev pub HasSomeEntry : Epoch → ℕ → Type 0
HasSomeEntry epoch node = (channels : ℕ) × HasEntry epoch node channels

-- epoch k names the node
abbrev pub IsNamed : Plan → ℕ → ℕ → Type 0
IsNamed plan k node = (channels : ℕ) × Names plan k node channels

-- two forms, if of one port, are the same
abbrev pub IsSameForm : PortForm → PortForm → Type 0
IsSameForm a f = f.port ≡ a.port → (a.rate ≡ f.rate) × (a.channels ≡ f.channels)

-- a form of epoch i agrees with each form of its port in epoch j
pub record AgreesIn (plan : Plan) (j : ℕ) (a : PortForm) : Type 0 where
  pub same : (f : Epoch) → IsEpoch plan j f → All (IsSameForm a) f.forms

-- a form of epoch i is that of its port in each later epoch up to which its node stays
pub record KeepsForm (plan : Plan) (i : ℕ) (a : PortForm) : Type 0 where
  pub later : (j : ℕ) → i < j → j < length plan.epochs → StaysFrom plan i j a.port.node
      → AgreesIn plan j a

-- after epoch i, no epoch names the node
pub record IsKeptFrom (plan : Plan) (i node : ℕ) : Type 0 where
  pub never : (j : ℕ) → i < j → ¬ IsNamed plan j node

-- a node with a form is not named later, where it is a sink
pub record KeepsSink (plan : Plan) (i : ℕ) (a : PortForm) : Type 0 where
  pub kept : kind_at plan a.port.node ≡ Sink → IsKeptFrom plan i a.port.node

-- the last epoch up to j that names the node has these channels
abbrev pub IsLastNamed : Plan → ℕ → ℕ → ℕ → Type 0
IsLastNamed plan j node channels = (k : ℕ) × (k ≤ j) × Names plan k node channels
    × StaysFrom plan k j node

-- so for the form of a node's first input
pub record IsToldIn (plan : Plan) (j : ℕ) (a : PortForm) : Type 0 where
  pub last : a.port.port ≡ 0 → 0 < input_count (kind_at plan a.port.node)
      → IsLastNamed plan j a.port.node a.channels

-- all this of a form of epoch i
pub record IsKeptForm (plan : Plan) (i : ℕ) (a : PortForm) : Type 0 where
  pub form : KeepsForm plan i a
  pub sink : KeepsSink plan i a
  pub told : IsToldIn plan i a

-- so for each form of epoch i
pub record KeepsEpoch (plan : Plan) (i : ℕ) : Type 0 where
  pub each : (e : Epoch) → IsEpoch plan i e → All (IsKeptForm plan i) e.forms
