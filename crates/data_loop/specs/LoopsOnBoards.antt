-- A loop of a run on the board of its epoch.
-- Source: PipeWire's documentation, "Graph Scheduling" and "Data loops"; which loop has a node is
-- this project's own.
use Rattle.std.specs.Prelude.{◌≡◌, ◌≢◌, ℕ, ◌+◌, ◌<◌, ◌≤◌, suc, false, List, [], All, Contains, length, slice_get, if◌then◌else◌}
use Rattle.atomic_table.specs.Seated.{TableId}
use Rattle.pw_graph.specs.declared.plan.Epoch.{Epoch}
use Rattle.pw_graph.specs.declared.plan.Plan.{Plan}
use Rattle.wav_files.specs.declared.wav.WavIn.{WavIn}
use Rattle.cycle_model.specs.Expected.{expected_samples}
use Rattle.board_rule.specs.Known.{Known}
use Rattle.board_rule.specs.Layout.{BoardLayout, nodes as nodes_in, last}
use Rattle.board_rule.specs.View.{loop_view}
use Rattle.io_areas.specs.PooledBoard.{IsPooledBoard}
use Rattle.data_loop.specs.declared.loop_state.LoopState.{LoopState}
use Rattle.data_loop.specs.declared.epoch_state.EpochState.{EpochState}
use Rattle.data_loop.specs.declared.did.Did.{Did}
use Rattle.data_loop.specs.LoopTurn.{next_in, IsDid}
use Rattle.data_loop.specs.Members.{follows, leads}
use Rattle.data_loop.specs.EpochStates.{IsStanding}
use Rattle.data_loop.specs.Loops.{HasEpochState, IsLoop, AreUnbegun, node_at, StateIs}

-- the next cycle of the state of a node that is no follower: the driver's next cycle, after the
-- cycles that it has led
abbrev pub stands_at : LoopState → Epoch → ℕ → ℕ
stands_at s e j = e.shape.first + (if leads e (node_at s j) then s.led else 0)

-- ON THE BOARD of its epoch, whose table is t: its followers rest at their cycles
pub record IsOnBoard (p : BoardLayout) (t : TableId) (s : LoopState) : Type 0 where
  pub loop : IsLoop s
  pub epoch_state : EpochState
  pub here : HasEpochState s s.epoch epoch_state
  pub stands : IsStanding s.run_model s.epoch p t epoch_state s.states.items s.rows
  pub later : AreUnbegun s (suc s.epoch)
  pub led : s.led ≤ p.shape.cycles
  pub others : (j : ℕ) → j < length s.nodes
      → follows stands.epoch (node_at s j) ≡ false
      → StateIs s (stands_at s stands.epoch j) j

-- AT THE END of the epoch: no follower has cycles left, and the driver has led all
pub record IsAtEnd (p : BoardLayout) (t : TableId) (s : LoopState) : Type 0 where
  pub on : IsOnBoard p t s
  pub ended : All (λ m. next_in p on.epoch_state.seat.knows m.node ≡ last p) on.epoch_state.members
  pub led : on.epoch_state.driver ≢ [] → s.led ≡ p.shape.cycles

-- the seat is one of the board's, as the board gave it, and has the loop's followers
pub record IsFirstSeat (plan : Plan) (waves : List WavIn) (k : ℕ) (nodes : List ℕ)
    (p : BoardLayout) (t : TableId) (seat : Known) : Type 0 where
  pub plain : IsPooledBoard p
  pub number : ℕ
  pub one : number < p.seats
  pub is : seat ≡ record {
    table = t;
    knows = loop_view p (expected_samples plan waves k) number;
  }
  pub owned : (n : ℕ) → Contains nodes n → p.index n < nodes_in p → p.index n ≢ p.driver
      → p.seat_of (p.index n) ≡ number

-- what a call on the board leaves as it was
pub record IsSameBut (s t : LoopState) : Type 0 where
  pub run_model : t.run_model ≡ s.run_model
  pub nodes : t.nodes ≡ s.nodes
  pub epoch : t.epoch ≡ s.epoch
  pub epoch_states : (k : ℕ) → k ≢ s.epoch
      → slice_get t.epoch_states.items k ≡ slice_get s.epoch_states.items k

-- a turn, with the tries that it found to be too early
abbrev pub HasTurnedOnce : BoardLayout → LoopState → Did → LoopState → Type 0
HasTurnedOnce p s did t = (g h : EpochState) → HasEpochState s s.epoch g → HasEpochState t t.epoch h
    → IsDid p g did t.found.items h

-- what the way into the next epoch leaves as it was
pub record IsNextOf (s t : LoopState) : Type 0 where
  pub run_model : t.run_model ≡ s.run_model
  pub nodes : t.nodes ≡ s.nodes
  pub epoch_states : t.epoch_states.items ≡ s.epoch_states.items
