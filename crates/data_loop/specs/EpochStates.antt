-- A loop on the board of an epoch, between two tries: its members rest, and their states stand at
-- their cycles. And what a try does.
-- Source: PipeWire's documentation, "Graph Scheduling"; which loop has a node is this project's
-- own.
use Rattle.std.specs.Prelude.{◌≡◌, ◌≢◌, ℕ, ◌<◌, List, All, AllPairs, length, true, slice_index_or}
use Rattle.atomic_table.specs.Seated.{TableId}
use Rattle.pw_graph.specs.declared.plan.Epoch.{Epoch}
use Rattle.pw_graph.specs.PlanFresh.{IsEpoch}
use Rattle.pw_graph.specs.SoundPlan.{IsSoundPlan}
use Rattle.cycle_model.specs.Expected.{epoch_rows}
use Rattle.cycle_model.specs.WavesFit.{WavesFit}
use Rattle.node_state.specs.declared.node_state.NodeState.{NodeState}
use Rattle.board_rule.specs.declared.view.View.{View}
use Rattle.board_rule.specs.Layout.{BoardLayout}
use Rattle.board_rule.specs.View.{node_of}
use Rattle.data_loop.specs.declared.member.Member.{Member}
use Rattle.data_loop.specs.declared.rows.Rows.{Rows}
use Rattle.node_progress.specs.declared.run_model.RunModel.{RunModel}
use Rattle.data_loop.specs.declared.epoch_state.EpochState.{EpochState}
use Rattle.data_loop.specs.turns.Turning.{IsEquipped, IsAtRest}
use Rattle.node_progress.specs.Standing.{works_in}
use Rattle.node_progress.specs.NodeStates.{IsNodeState}
use Rattle.data_loop.specs.Progress.{IsProgressOf}
use Rattle.data_loop.specs.Members.{member_of}
use Rattle.data_loop.specs.Rooms.{HasRowsFor}

-- a member of the epoch: a node of the plan that works in it
pub record IsMemberIn (run_model : RunModel) (e : Epoch) (m : Member) : Type 0 where
  pub place : m.node < length run_model.plan.value.nodes
  pub works : works_in e m.node ≡ true
  pub is : m ≡ member_of run_model.plan.value e m.node m.at

-- its state is among those of the loop, and stands at its next cycle
abbrev pub StandsAt : RunModel → ℕ → BoardLayout → View → List NodeState → Member
    → Type 0
StandsAt run_model k p v states m = (m.at < length states)
    × ((d : NodeState) → IsNodeState run_model k (node_of v (p.index m.node)).next m.node
    (slice_index_or states m.at d))

abbrev pub AreApart : Member → Member → Type 0
AreApart x y = (x.at ≢ y.at) × (x.node ≢ y.node)

-- the states of nodes that are no members are as before
abbrev pub AreLeft : List Member → List NodeState → List NodeState → Type 0
AreLeft members old new = (at : ℕ) (d : NodeState) → All (λ m. m.at ≢ at) members
    → slice_index_or new at d ≡ slice_index_or old at d

-- A LOOP on the board of epoch k, whose table is t
pub record IsStanding (run_model : RunModel) (k : ℕ) (p : BoardLayout) (t : TableId)
    (g : EpochState) (states : List NodeState) (rows : Rows) : Type 0 where
  pub sound : IsSoundPlan run_model.plan.value
  pub waves : WavesFit run_model.plan.value run_model.waves.value
  pub epoch : Epoch
  pub at : IsEpoch run_model.plan.value k epoch
  pub shape : p.shape ≡ epoch.shape
  pub table : g.seat.table ≡ t
  pub expect : g.seat.knows.expect ≡ epoch_rows run_model.plan.value run_model.waves.value epoch
  pub equipped : IsEquipped p g.seat.knows g.own
  pub members : All (IsMemberIn run_model epoch) g.members
  pub apart : AllPairs AreApart g.members
  pub rests : All (λ m. IsAtRest p g.seat.knows g.own (p.index m.node)) g.members
  pub each : All (StandsAt run_model k p g.seat.knows states) g.members
  pub room : All (HasRowsFor rows) g.members
  pub progress : IsProgressOf p g.seat.knows g.members g.progress
