-- Who runs a plan beside the driver's thread, and on which seats its nodes are.
-- Source: PipeWire's documentation, "Graph Scheduling" (data loops); seats are this project's own.
use Rattle.std.specs.Prelude.{ℕ, if◌then◌else◌}
use Rattle.pw_graph.specs.declared.plan.Plan.{Plan}
use Rattle.graph_run.specs.Assignment.{loop_of, cell_number, cell_count}
use Rattle.pw_top.specs.declared.playing.Crew.{Crew}

-- whose seat a node is on: that of its loop; where loops steal, each node that never drives has a
-- seat that no other has
abbrev pub seat_in : Plan → Crew → ℕ → ℕ
seat_in plan crew = if crew.steal then cell_number plan else loop_of plan crew.loops

-- how many seats there are beside the driver's own
abbrev pub seats_beside : Plan → Crew → ℕ
seats_beside plan crew = if crew.steal then cell_count plan else crew.loops
