-- A loop that is being made, one epoch after the other.
-- Source: PipeWire's documentation, "Data loops"; epochs are this project's own.
use Rattle.std.specs.Prelude.{◌≡◌, ℕ, ◌<◌, ◌≤◌, ◌++◌, AllPairs, All, List, length, map}
use Rattle.std.specs.Vec.Iter.{into_iter_items}
use Rattle.pw_lists.specs.Limits.{nodes_limit}
use Rattle.pw_graph.specs.declared.plan.Plan.{Plan}
use Rattle.board_rule.specs.Known.{Known}
use Rattle.data_loop.specs.declared.draft.LoopDraft.{LoopDraft}
use Rattle.data_loop.specs.declared.epoch_state.EpochState.{EpochState}
use Rattle.data_loop.specs.EpochStateParts.{AreFirstEpochStates}

-- the seats of the epochs that it has; those of all epochs
abbrev pub used : LoopDraft → List Known
used d = map (λ (g : EpochState). g.seat) d.epoch_states

abbrev pub seats_of : LoopDraft → List Known
seats_of d = used d ++ into_iter_items d.seats

-- IT HAS THE FIRST n EPOCHS of the loop of these nodes and seats
pub record HasFirst (plan : Plan) (nodes : List ℕ) (seats : List Known) (n : ℕ)
    (d : LoopDraft) : Type 0 where
  pub nodes_are : d.nodes ≡ nodes
  pub seats_are : seats_of d ≡ seats
  pub count : length d.epoch_states ≡ n
  pub made : AreFirstEpochStates plan nodes (used d) d.epoch_states

-- an epoch of the plan is left, with a seat
pub record LacksEpochs (plan : Plan) (d : LoopDraft) : Type 0 where
  pub few : length d.nodes ≤ nodes_limit
  pub seats : length (seats_of d) ≡ length plan.epochs
  pub less : length d.epoch_states < length plan.epochs

-- it has all epochs of the plan, and its nodes are places of the plan that ascend
pub record HasAll (plan : Plan) (d : LoopDraft) : Type 0 where
  pub ascend : AllPairs (λ m n. m < n) d.nodes
  pub places : All (λ n. n < length plan.nodes) d.nodes
  pub seats : length (seats_of d) ≡ length plan.epochs
  pub count : length d.epoch_states ≡ length plan.epochs
  pub made : AreFirstEpochStates plan d.nodes (used d) d.epoch_states
