-- How many dependencies of a node have not yet lowered it in a cycle.
-- Source: PipeWire's documentation, "Graph Scheduling": pending counts down from required;
-- spa/graph/graph.h, spa_graph_state_dec.
use Rattle.std.specs.Prelude.{ℕ, zero, suc, ◌+◌, Bool, false, List, [], ◌∷◌, ◌++◌, cond, eqb, slice_index_or}
use Rattle.board_rule.specs.Layout.{BoardLayout, nodes}
use Rattle.board_rule.specs.Sums.{times}

-- the dependencies of n among the first k indexes, ascending: the nodes that have n among their
-- targets
abbrev pub dependencies_below : BoardLayout → ℕ → ℕ → List ℕ
dependencies_below p n zero = []
dependencies_below p n (suc k) = dependencies_below p n k
    ++ cond (eqb (times n (p.targets k)) 0) [] (k ∷ [])

abbrev pub dependencies : BoardLayout → ℕ → List ℕ
dependencies p n = dependencies_below p n (nodes p)

-- LEFT: one for each dependency m of the list that has not yet told: `untold m` is 1 for such an m,
-- else 0
abbrev pub left_of : (ℕ → ℕ) → List ℕ → ℕ
left_of untold [] = 0
left_of untold (m ∷ ms) = untold m + left_of untold ms

-- 1 for an index whose node has yet to tell
abbrev pub untold : List Bool → ℕ → ℕ
untold told m = cond (slice_index_or told m false) 0 1
