-- How many of its targets a node has lowered in its cycle.
-- Source: PipeWire's documentation, "Graph Scheduling"; spa/graph/graph.h, spa_graph_link_trigger.
use Rattle.std.specs.Prelude.{ℕ, Bool, true, false}
use Rattle.board_rule.specs.declared.view.Phase.{Phase}
use Rattle.board_rule.specs.declared.view.Phase.TheVariants.{Telling}
use Rattle.board_rule.specs.declared.view.DriverPhase.{DriverPhase}
use Rattle.board_rule.specs.declared.view.DriverPhase.TheVariants as drives
use Rattle.board_rule.specs.declared.view.View.{View}
use Rattle.board_rule.specs.View.{node_of}

abbrev pub lowered_of : Phase → ℕ
lowered_of (Telling i owes) = i
lowered_of _ = 0

abbrev pub taken_of : DriverPhase → ℕ
taken_of (drives.Kick i owes) = i
taken_of _ = 0

-- how many targets are lowered
abbrev pub taken : Bool → View → ℕ → ℕ
taken true v m = taken_of v.lead.drive
taken false v m = lowered_of (node_of v m).phase
