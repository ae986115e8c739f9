-- What a loop has in an epoch: its followers there, the driver where that is one of its nodes, the
-- nodes that begin anew, and the free blocks of the pools that its nodes fill.
-- Source: PipeWire's documentation, "Graph Scheduling"; which loop has a node is this project's
-- own.
use Rattle.std.specs.Prelude.{◌≡◌, ℕ, ◌<◌, List, [], All, Option, None, option_map, length, map, slice_get, slice_index_or, unwrap_or}
use Rattle.pw_graph.specs.declared.plan.Epoch.{Epoch}
use Rattle.pw_graph.specs.declared.plan.Plan.{Plan}
use Rattle.pw_graph.specs.Pools.{pools_of}
use Rattle.pw_graph.specs.PlanFresh.{IsEpoch}
use Rattle.io_areas.specs.FreeBlocks.{free_at_start}
use Rattle.board_rule.specs.Known.{Known}
use Rattle.node_progress.specs.Restarts.{restart_of}
use Rattle.data_loop.specs.declared.rows.Rows.{Rows}
use Rattle.data_loop.specs.declared.epoch_state.EpochState.{EpochState}
use Rattle.data_loop.specs.Progress.{first_progress}
use Rattle.data_loop.specs.OwnPools.{own_pools, own_places}
use Rattle.data_loop.specs.Members.{members_of, drivers_of}
use Rattle.data_loop.specs.Rooms.{HasRowsFor, IsWithin}

-- what stays in all turns of epoch k
pub record IsEpochStateOf (plan : Plan) (nodes : List ℕ) (k : ℕ) (e : Epoch)
    (g : EpochState) : Type 0 where
  pub members : g.members ≡ members_of plan nodes e
  pub driver : g.driver ≡ drivers_of plan nodes e
  pub restarts : g.restarts ≡ map (restart_of plan k) nodes
  pub places : g.own.places ≡ own_places nodes (pools_of e.shape)
  pub shapes : g.own.shapes ≡ own_pools nodes (pools_of e.shape)

-- the restart of the node at an index; none where the list has no such
abbrev pub restart_at : List (Option ℕ) → ℕ → Option ℕ
restart_at restarts j = unwrap_or (slice_get restarts j) None

-- the restarts of epoch k; none after the last one
abbrev pub restarts_in : List EpochState → ℕ → List (Option ℕ)
restarts_in epoch_states k = unwrap_or (option_map (λ g. g.restarts) (slice_get epoch_states k)) []

-- two epoch states have this alike
pub record IsSameEpochState (g h : EpochState) : Type 0 where
  pub members : h.members ≡ g.members
  pub driver : h.driver ≡ g.driver
  pub restarts : h.restarts ≡ g.restarts
  pub places : h.own.places ≡ g.own.places
  pub shapes : h.own.shapes ≡ g.own.shapes
  pub table : h.seat.table ≡ g.seat.table

-- no turn was made in the epoch
abbrev pub IsUnbegun : Epoch → EpochState → Type 0
IsUnbegun e g = (g.own.free.items ≡ map (free_at_start e.shape) g.own.shapes)
    × (g.progress ≡ first_progress)

-- THE STATE of epoch k, as it is made of a seat
pub record IsFirstEpochState (plan : Plan) (nodes : List ℕ) (k : ℕ) (seat : Known)
    (g : EpochState) : Type 0 where
  pub seat_is : g.seat ≡ seat
  pub parts : (e : Epoch) → IsEpoch plan k e → IsEpochStateOf plan nodes k e g × IsUnbegun e g

-- the epoch states of all epochs, of the loop's seats
pub record AreFirstEpochStates (plan : Plan) (nodes : List ℕ) (seats : List Known)
    (epoch_states : List EpochState) : Type 0 where
  pub count : length epoch_states ≡ length seats
  pub each : (k : ℕ) (d : Known) (g : EpochState) → k < length seats
      → IsFirstEpochState plan nodes k (slice_index_or seats k d) (slice_index_or epoch_states k g)

-- each of its nodes has room for its quanta
abbrev pub HasRoomIn : Rows → EpochState → Type 0
HasRoomIn rows g = All (HasRowsFor rows) g.members × All (HasRowsFor rows) g.driver

-- the samples of a quantum at each port of its nodes are at most `width`
abbrev pub IsEpochStateWithin : ℕ → EpochState → Type 0
IsEpochStateWithin width g = All (IsWithin width) g.members × All (IsWithin width) g.driver
