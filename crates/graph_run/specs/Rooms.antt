-- The room for what a run of a plan answers.
-- Source: this project's own.
use Rattle.std.specs.Prelude.{◌≡◌, ◌≤◌, [], length}
use Rattle.pw_graph.specs.declared.plan.Plan.{Plan}
use Rattle.pw_graph.specs.PlanSums.{events_of}
use Rattle.graph_run.specs.declared.rooms.Rooms.{Rooms}

-- the lists are empty
pub record AreBare (r : Rooms) : Type 0 where
  pub closed : r.closed.list ≡ []
  pub history : r.history.list ≡ []
  pub sinks : r.sinks.list ≡ []
  pub peaks : r.peaks.list ≡ []

-- and have room for a board an epoch, all events, and something of each node
pub record AreRooms (plan : Plan) (r : Rooms) : Type 0 where
  pub bare : AreBare r
  pub closed : length plan.epochs ≤ r.closed.spare
  pub history : events_of plan ≤ r.history.spare
  pub sinks : length plan.nodes ≤ r.sinks.spare
  pub peaks : length plan.nodes ≤ r.peaks.spare
