-- Nodes that begin anew: which epochs name a node as fresh, and what that says of its forms.
-- Source: this project's: a node whose last link went gives up its formats, and its stream starts
-- anew.
use Rattle.std.specs.Prelude.{◌≡◌, ℕ, ◌<◌, ◌≤◌, ◌⊎◌, length, Some, All, AllPairs, Contains, slice_get}
use Rattle.pw_graph.specs.declared.ids.PortId.{PortId}
use Rattle.pw_graph.specs.declared.kind.Kind.TheVariants.{Sink}
use Rattle.pw_graph.specs.declared.plan.Epoch.{Epoch}
use Rattle.pw_graph.specs.declared.plan.Fresh.{Fresh}
use Rattle.pw_graph.specs.declared.plan.Plan.{Plan}
use Rattle.pw_graph.specs.KindPorts.{input_count}
use Rattle.pw_graph.specs.KindRanges.{MayHaveChannels}
use Rattle.pw_graph.specs.PlanForms.{kind_at, HasForm}

-- epoch k of the plan, counted from 0
abbrev pub IsEpoch : Plan → ℕ → Epoch → Type 0
IsEpoch plan k epoch = slice_get plan.epochs k ≡ Some epoch

-- epoch k names the node, with these channels
pub record Names (plan : Plan) (k node channels : ℕ) : Type 0 where
  pub epoch : Epoch
  pub at : IsEpoch plan k epoch
  pub entry : Contains epoch.fresh (record { node = node; channels = channels })

-- no epoch after i, up to j, names the node
abbrev pub StaysFrom : Plan → ℕ → ℕ → ℕ → Type 0
StaysFrom plan i j node = (k channels : ℕ) → i < k → k ≤ j → ¬ Names plan k node channels

-- an entry names the place of a node, with 0 or channels that its first input may have
pub record IsSoundFresh (plan : Plan) (fresh : Fresh) : Type 0 where
  pub place : fresh.node < length plan.nodes
  pub channels : (fresh.channels ≡ 0) ⊎ ((0 < input_count (kind_at plan fresh.node))
      × MayHaveChannels (kind_at plan fresh.node) 0 fresh.channels)

-- a port has the same form in two epochs between which its node stays
abbrev pub KeepsForms : Plan → Type 0
KeepsForms plan = (i j : ℕ) (e f : Epoch) (port : PortId) (rate channels rate' channels' : ℕ)
    → i < j → IsEpoch plan i e
    → IsEpoch plan j f → StaysFrom plan i j port.node
    → HasForm e port rate channels → HasForm f port rate' channels'
    → (rate ≡ rate') × (channels ≡ channels')

-- a sink is not named after an epoch in which it has a form
abbrev pub KeepsSinks : Plan → Type 0
KeepsSinks plan = (i j : ℕ) (e : Epoch) (port : PortId) (rate channels more : ℕ) → i < j
    → IsEpoch plan i e
    → kind_at plan port.node ≡ Sink → HasForm e port rate channels
    → ¬ Names plan j port.node more

-- where a node's first input has a form, the last epoch so far that names the node has the form's
-- channels
abbrev pub IsTold : Plan → Type 0
IsTold plan = (j : ℕ) (e : Epoch) (node rate channels : ℕ) → IsEpoch plan j e
    → 0 < input_count (kind_at plan node)
    → HasForm e (record { node = node; port = 0 }) rate channels
    → (k : ℕ) × (k ≤ j) × Names plan k node channels × StaysFrom plan k j node

pub record HasSoundFresh (plan : Plan) : Type 0 where
  pub ascend : All (λ e. AllPairs (λ x y. x.node < y.node) e.fresh) plan.epochs
  pub each : All (λ e. All (IsSoundFresh plan) e.fresh) plan.epochs
  pub forms : KeepsForms plan
  pub sinks : KeepsSinks plan
  pub told : IsTold plan
