-- Opening: the ways as `Ways::new` answers them, with which nothing was done yet.
-- Source: this project's own.
use Rattle.std.specs.Prelude.{◌≡◌, ℕ, List, [], length, Some, slice_get}
use Rattle.atomic_table.specs.Seated.{TableId}
use Rattle.crossbeam_queue.specs.Passes.{IsPassOf}
use Rattle.crossbeam_utils.specs.Token.{parker_view}
use Rattle.ready_queues.specs.declared.end.End.{End}
use Rattle.ready_queues.specs.declared.lane.Lane.{Lane}
use Rattle.ready_queues.specs.declared.way.Way.{Way}
use Rattle.ready_queues.specs.declared.ways.Ways.{Ways}
use Rattle.ready_queues.specs.Hands.{hand}
use Rattle.ready_queues.specs.StartRule.{unstarted, unseen}
use Rattle.ready_queues.specs.ParkingRule.{woken}
use Rattle.ready_queues.specs.Ends.{hand_of, wakes_of, sight_of, received_by}
use Rattle.ready_queues.specs.Lanes.{parker_of, start_of}
use Rattle.ready_queues.specs.AnsweredWith.{IsWayOf}

-- an end with which nothing was pushed, received, given or seen
pub record IsUnused (owner : List ℕ) (number : ℕ) (e : End) : Type 0 where
  pub hand : hand_of e ≡ hand owner number [] []
  pub wakes : wakes_of e ≡ woken 0 0
  pub sight : sight_of e ≡ unseen

-- an unused end to the loop of a lane
pub record IsFreshEnd (owner : List ℕ) (number : ℕ) (lane : Lane) (e : End) : Type 0 where
  pub pass : IsPassOf lane.queue e.pass
  pub wake : e.wake.table_id ≡ parker_of lane
  pub start : e.sight.table_id ≡ start_of lane
  pub unused : IsUnused owner number e

-- unused ends to the loops of these lanes, in their order
abbrev pub AreFresh : List ℕ → List Lane → List End → Type 0
AreFresh owner lanes ends = (l : ℕ) (lane : Lane) (e : End) → slice_get lanes l ≡ Some lane
    → slice_get ends l ≡ Some e → IsFreshEnd owner l lane e

pub record AreFreshEnds (owner : List ℕ) (lanes : List Lane) (ends : List End) : Type 0 where
  pub count : length ends ≡ length lanes
  pub each : AreFresh owner lanes ends
  pub none : received_by ends ≡ 0

-- a way without ends that was not started, of the loop of this number and lane
pub record IsBareWay (lane : Lane) (driver : TableId) (number : ℕ) (way : Way) : Type 0 where
  pub loop_is : way.number ≡ number
  pub parker_is : way.own.table_id ≡ parker_of lane
  pub driver_is : way.driver.table_id ≡ driver
  pub begins_is : way.begins.table_id ≡ start_of lane
  pub own : parker_view way.own ≡ woken 0 0
  pub gave : parker_view way.driver ≡ woken 0 0
  pub idle : way.begins.me.0 ≡ unstarted
  pub empty : received_by way.ends.items ≡ 0

-- a bare way for the loop of each lane, in their order
abbrev pub AreBare : List Lane → TableId → List Way → Type 0
AreBare lanes driver ways = (k : ℕ) (lane : Lane) (w : Way) → slice_get lanes k ≡ Some lane
    → slice_get ways k ≡ Some w → IsBareWay lane driver k w

-- the way of the loop of this number, or of the driver, as it is answered: it was not started
pub record IsNewWay (ways : Ways) (number : ℕ) (way : Way) : Type 0 where
  pub answered : IsWayOf ways way
  pub loop_is : way.number ≡ number
  pub ends : AreFreshEnds ways.owner ways.lanes way.ends.items
  pub own : parker_view way.own ≡ woken 0 0
  pub driver : parker_view way.driver ≡ woken 0 0
  pub idle : way.begins.me.0 ≡ unstarted
