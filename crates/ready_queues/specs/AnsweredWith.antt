-- What it is for a way to be answered with some ways: its ends are to their loops, in the order of
-- the loops, it parks on the parker of its own thread, and has the own seat of its loop's start.
-- Source: this project's own.
use Rattle.std.specs.Prelude.{◌≡◌, true, List, [], ◌∷◌, ◌++◌, map, Some, slice_get}
use Rattle.atomic_table.specs.Seated.{TableId}
use Rattle.ready_queues.specs.declared.lane.Lane.{Lane}
use Rattle.ready_queues.specs.declared.way.Way.{Way}
use Rattle.ready_queues.specs.declared.ways.Ways.{Ways}
use Rattle.ready_queues.specs.Ends.{AreEndsOf}
use Rattle.ready_queues.specs.Lanes.{parker_of, start_of, unparks}

-- the parkers of the threads: of the loops in their order, and of the driver
abbrev pub parkers : Ways → List TableId
parkers ways = map parker_of ways.lanes ++ unparks ways.driver ∷ []

-- the way is one of these ways
pub record IsWayOf (ways : Ways) (way : Way) : Type 0 where
  pub ends : AreEndsOf ways.owner ways.lanes way.ends.items
  pub parker : slice_get (parkers ways) way.number ≡ Some way.own.table_id
  pub driver : way.driver.table_id ≡ unparks ways.driver
  pub begins : (lane : Lane) → slice_get ways.lanes way.number ≡ Some lane
      → way.begins.table_id ≡ start_of lane
  pub own : way.begins.me.0.own ≡ true
