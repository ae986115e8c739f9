-- An epoch of the graph now, and what is said of the nodes after it, for later epochs.
-- Source: this project's own.
use Rattle.std.specs.Prelude.{◌≡◌, ◌⊎◌, ℕ, ◌<◌, ◌++◌, [], ◌∷◌, true, false, List, Contains}
use Rattle.pw_graph.specs.declared.ids.PortId.{PortId}
use Rattle.pw_graph.specs.declared.kind.Kind.TheVariants.{Sink}
use Rattle.pw_graph.specs.declared.plan.Epoch.{Epoch}
use Rattle.pw_graph.specs.declared.plan.Plan.{Plan}
use Rattle.pw_graph.specs.KindPorts.{input_count}
use Rattle.pw_graph.specs.PlanForms.{kind_at, HasForm}
use Rattle.port_model.specs.declared.port_state.Node.{Node}
use Rattle.graph_lines.specs.declared.standing.Standing.{Standing}
use Rattle.graph_lines.specs.Activity.{standing}
use Rattle.graph_plan.specs.working.Remembering.{Stands, KeepsIt}

abbrev pub with_epoch : Plan → Epoch → Plan
with_epoch plan e = record plan { epochs = plan.epochs ++ e ∷ [] }

-- a node gave up since the epoch before, or its channels are others
abbrev pub Changes : List Standing → List Standing → ℕ → Type 0
Changes said after n = ((standing said n).gave_up ≡ true)
    ⊎ (¬ ((standing after n).told ≡ (standing said n).told))

-- its forms are those that hold; it names just the nodes that change, with their channels
pub record IsNext (plan : Plan) (nodes : List Node) (said after : List Standing) (e : Epoch)
    : Type 0 where
  pub forms : (port : PortId) (rate channels : ℕ) → HasForm e port rate channels
      → Stands nodes port rate channels
  pub first : (node rate channels : ℕ) → 0 < input_count (kind_at plan node)
      → HasForm e (record { node = node; port = 0 }) rate channels
      → ((standing after node).told ≡ channels) × (0 < channels)
  pub only : (node channels : ℕ)
      → Contains e.fresh (record { node = node; channels = channels })
      → (channels ≡ (standing after node).told) × Changes said after node
  pub named : (node : ℕ) → Changes said after node
      → Contains e.fresh (record { node = node; channels = (standing after node).told })
  pub quiet : (node : ℕ) → (standing after node).gave_up ≡ false

-- sinks that had a form keep it, and so do those that have one now
pub record KeepsSinksOn (plan : Plan) (nodes : List Node) (said after : List Standing) (e : Epoch)
    : Type 0 where
  pub still : (port : PortId) (rate channels : ℕ) → kind_at plan port.node ≡ Sink
      → KeepsIt nodes said port rate channels → KeepsIt nodes after port rate channels
  pub formed : (port : PortId) (rate channels : ℕ) → kind_at plan port.node ≡ Sink
      → HasForm e port rate channels
      → KeepsIt nodes after port rate channels
