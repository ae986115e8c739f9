-- A loop of a run between two calls: before an epoch, on the board of one, and at its end.
-- Source: PipeWire's documentation, "Graph Scheduling" and "Data loops"; which loop has a node is
-- this project's own.
use Rattle.std.specs.Prelude.{◌≡◌, ℕ, ◌+◌, ◌<◌, ◌≤◌, [], All, AllPairs, Some, length, slice_get, slice_index, slice_index_or, vec_capacity}
use Rattle.pw_graph.specs.declared.plan.Epoch.{Epoch}
use Rattle.pw_graph.specs.declared.plan.Plan.{Plan}
use Rattle.pw_graph.specs.PlanFresh.{IsEpoch}
use Rattle.pw_graph.specs.SoundPlan.{IsSoundPlan}
use Rattle.cycle_model.specs.WavesFit.{WavesFit}
use Rattle.node_state.specs.declared.node_state.NodeState.{NodeState}
use Rattle.node_progress.specs.NodeStates.{IsNodeState, first_of}
use Rattle.data_loop.specs.declared.loop_state.LoopState.{LoopState}
use Rattle.data_loop.specs.declared.epoch_state.EpochState.{EpochState}
use Rattle.data_loop.specs.EpochStateParts.{IsEpochStateOf, IsUnbegun, HasRoomIn}
use Rattle.data_loop.specs.Tables.{AreTables}

abbrev pub plan_of : LoopState → Plan
plan_of s = s.run_model.plan.value

-- what the loop has in epoch k
abbrev pub HasEpochState : LoopState → ℕ → EpochState → Type 0
HasEpochState s k g = slice_get s.epoch_states.items k ≡ Some g

-- what stays of it in all calls
pub record IsLoop (s : LoopState) : Type 0 where
  pub sound : IsSoundPlan (plan_of s)
  pub waves : WavesFit (plan_of s) s.run_model.waves.value
  pub ascend : AllPairs (λ m n. m < n) s.nodes
  pub places : All (λ n. n < length (plan_of s).nodes) s.nodes
  pub states : length s.states.items ≡ length s.nodes
  pub epoch_states : length s.epoch_states.items ≡ length (plan_of s).epochs
  pub parts : (k : ℕ) (e : Epoch) (g : EpochState) → IsEpoch (plan_of s) k e → HasEpochState s k g
      → IsEpochStateOf (plan_of s) s.nodes k e g
  pub room : (k : ℕ) (g : EpochState) → HasEpochState s k g → HasRoomIn s.rows g
  pub found_room : length s.nodes ≤ vec_capacity s.found
  pub tables : AreTables s.tables × (length s.tables ≡ length s.nodes + 1)
  pub few_found : length s.found.items ≤ length s.nodes
  pub told : slice_index_or s.tables (length s.found.items) [] ≡ s.found.items

-- in the epochs from k on no turn was made
abbrev pub AreUnbegun : LoopState → ℕ → Type 0
AreUnbegun s k = (i : ℕ) (e : Epoch) (g : EpochState) → k ≤ i → IsEpoch (plan_of s) i e
    → HasEpochState s i g → IsUnbegun e g

-- the node at an index, and its state
abbrev pub node_at : LoopState → ℕ → ℕ
node_at s j = slice_index s.nodes j

abbrev pub StateIs : LoopState → ℕ → ℕ → Type 0
StateIs s c j = (d : NodeState)
    → IsNodeState s.run_model s.epoch c (node_at s j) (slice_index_or s.states.items j d)

-- BETWEEN TWO EPOCHS: `epoch` of them are done
pub record IsBetweenEpochs (s : LoopState) : Type 0 where
  pub loop : IsLoop s
  pub some : s.epoch ≤ length (plan_of s).epochs
  pub none_led : s.led ≡ 0
  pub unbegun : AreUnbegun s s.epoch
  pub states : (j : ℕ) → j < length s.nodes → StateIs s (first_of (plan_of s) s.epoch) j
