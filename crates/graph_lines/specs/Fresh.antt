-- Nodes that begin anew with an epoch: what was noted of each before, and what an epoch names.
-- Source: this project's: a node whose last link went gives up its formats, and its stream starts
-- anew.
use Rattle.std.specs.Prelude.{◌≡◌, ◌↔◌, ◌⊎◌, ℕ, ◌<◌, true, AllPairs, Contains}
use Rattle.pw_graph.specs.declared.plan.Epoch.{Epoch}
use Rattle.port_model.specs.PortState.{IsInput}
use Rattle.graph_lines.specs.declared.graph.Graph.{Graph}
use Rattle.graph_lines.specs.Activity.{standing}
use Rattle.graph_lines.specs.Forms.{FormIn}

-- a line has made the node, and its first input has a form of these channels
pub record HasFirstInput (g : Graph) (n channels : ℕ) : Type 0 where
  pub there : (standing g.nodes n).there ≡ true
  pub input : IsInput g.ports (record { node = n; port = 0 })
  pub rate : ℕ
  pub form : FormIn g.ports (record { node = n; port = 0 }) rate channels

-- CHANNELS of a node's first input; 0 where it has no form, or no input
abbrev pub ChannelsIn : Graph → ℕ → ℕ → Type 0
ChannelsIn g n channels = HasFirstInput g n channels
    ⊎ ((channels ≡ 0) × ((k : ℕ) → HasFirstInput g n k → ⊥))

-- FRESH: it gave up its formats since the epoch before, or its channels are not those of the epoch
-- before
abbrev pub IsFresh : Graph → ℕ → ℕ → Type 0
IsFresh g n channels = ((standing g.nodes n).gave_up ≡ true)
    ⊎ (channels ≡ (standing g.nodes n).told → ⊥)

-- the fresh nodes, active or not, ascending, each with its channels
pub record HasFresh (g : Graph) (e : Epoch) : Type 0 where
  pub ascend : AllPairs (λ x y. x.node < y.node) e.fresh
  pub each : (n channels : ℕ) → Contains e.fresh (record { node = n; channels = channels })
      ↔ (ChannelsIn g n channels × IsFresh g n channels)
