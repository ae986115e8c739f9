-- Which loop each node of a plan belongs to; and the cells of a plan, in which each node that never
-- drives is the only one.
-- Source: PipeWire's documentation, "Data loops" (a node is run by one loop); which loop is this
-- project's own.
use Rattle.std.specs.Prelude.{ℕ, ◌%◌, ◌==◌, ◌||◌, not, Bool, List, map, count_by, length, slice_get, option_map, unwrap_or, take, if◌then◌else◌}
use Rattle.std.specs.List.{list_any, range_with_len}
use Rattle.pw_graph.specs.declared.plan.Plan.{Plan}

-- a node drives in some epoch
abbrev pub drives_somewhere : Plan → ℕ → Bool
drives_somewhere plan n = list_any (λ e. e.shape.driver == n) plan.epochs

-- the number that says a node's loop
abbrev pub loop_number : Plan → ℕ → ℕ
loop_number plan n = unwrap_or (option_map (λ x. x.k) (slice_get plan.nodes n)) 0

-- THE LOOP of a node: the driver's own, which has the number `loops`, where it drives in some epoch
-- or there is no other; else its own number modulo `loops`
abbrev pub loop_of : Plan → ℕ → ℕ → ℕ
loop_of plan loops n =
    if (loops == 0) || drives_somewhere plan n then loops else loop_number plan n % loops

-- the loop of each node
abbrev pub owner_row : Plan → ℕ → List ℕ
owner_row plan loops = map (loop_of plan loops) (range_with_len 0 (length plan.nodes))

-- how many nodes of the plan before this one drive in no epoch, and how many do in all
abbrev pub cells_before : Plan → ℕ → ℕ
cells_before plan n = count_by (λ m. not (drives_somewhere plan m))
    (take n (range_with_len 0 (length plan.nodes)))

abbrev pub cell_count : Plan → ℕ
cell_count plan = cells_before plan (length plan.nodes)

-- THE CELL of a node, by its number: cells are numbered in the order of their nodes, and after the
-- last one is the driver's own loop, to which each node belongs that drives in some epoch
abbrev pub cell_number : Plan → ℕ → ℕ
cell_number plan n = if drives_somewhere plan n then cell_count plan else cells_before plan n
