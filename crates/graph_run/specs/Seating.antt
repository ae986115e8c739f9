-- Who is on which seat of the boards of a plan: a function from nodes to the numbers of seats. The
-- last seat is that of the driver's own loop.
-- Source: PipeWire's documentation, "Data loops" (a node is run by one loop); seats are this
-- project's own.
use Rattle.std.specs.Prelude.{◌≡◌, ℕ, ◌+◌, ◌≤◌, ◌==◌, true, List, map, filter, length, slice_index_or}
use Rattle.std.specs.List.{range_with_len}
use Rattle.pw_graph.specs.declared.shape.Shape.{Shape}
use Rattle.pw_graph.specs.declared.plan.Epoch.{Epoch}
use Rattle.pw_graph.specs.declared.plan.Plan.{Plan}
use Rattle.pw_lists.specs.Limits.{nodes_limit}
use Rattle.board_rule.specs.declared.board_shape.BoardShape.{BoardShape}
use Rattle.graph_run.specs.declared.seating.Seating.{Seating}
use Rattle.graph_run.specs.Assignment.{drives_somewhere}

-- the nodes on one seat, which one loop has: ascending
abbrev pub nodes_of_loop : (ℕ → ℕ) → Plan → ℕ → List ℕ
nodes_of_loop f plan which = filter (λ n. f n == which) (range_with_len 0 (length plan.nodes))

-- a seat for each node of a shape, and the shape of the board of an epoch
abbrev pub seat_row : (ℕ → ℕ) → Shape → List ℕ
seat_row f shape = map (λ n. f n.node) shape.nodes

abbrev pub epoch_board : (ℕ → ℕ) → ℕ → Epoch → BoardShape
epoch_board f loops e = record {
  shape = e.shape;
  seat_of = seat_row f e.shape;
  seats = loops + 1;
}

-- A SEATING of a plan by `loops` loops beside the driver's own: the driver's own has the last seat,
-- and on it is each node that drives in some epoch
pub record IsSeating (plan : Plan) (f : ℕ → ℕ) (loops : ℕ) : Type 0 where
  pub few : loops ≤ nodes_limit
  pub most : (n : ℕ) → f n ≤ loops
  pub drivers : (n : ℕ) → drives_somewhere plan n ≡ true → f n ≡ loops

-- the seat that a list gives to a node; what is no node of the plan is on the driver's own
abbrev pub holder_of : Seating → ℕ → ℕ
holder_of s n = slice_index_or s.owner n s.loops

-- the list of a function
abbrev pub seated_by : (ℕ → ℕ) → Plan → ℕ → Seating
seated_by f plan loops = record {
  owner = map f (range_with_len 0 (length plan.nodes));
  loops = loops;
}

abbrev pub IsSeatingOf : Plan → Seating → Type 0
IsSeatingOf plan s = IsSeating plan (holder_of s) s.loops
