-- The drivers' seats of all boards during a run.
-- Source: PipeWire's documentation, "Graph Scheduling"; that a check is made when a ticker says so
-- is this project's own.
use Rattle.std.specs.Prelude.{◌≡◌, ℕ, ◌+◌, ◌-◌, ◌<◌, ◌≤◌, List, Some, length, slice_get, slice_index_or, sum_by}
use Rattle.board_rule.specs.declared.board.Board.{Board}
use Rattle.board_rule.specs.Known.{Known}
use Rattle.board_rule.specs.OnBoard.{layout}
use Rattle.driver_cycle.specs.Leading.{HasEndedAll}

-- the seat has ended all cycles of its board
pub record HasLedAll (board : Board) (s t : Known) : Type 0 where
  pub ended : HasEndedAll (layout board) t.knows
  pub table : t.table ≡ s.table
  pub expect : t.knows.expect ≡ s.knows.expect

-- so have those of the boards before k, the others are as before
pub record HaveLed (k : ℕ) (boards : List Board) (old new : List Known) : Type 0 where
  pub count : length new ≡ length old
  pub each : (j : ℕ) (b : Board) (d : Known) → j < k → slice_get boards j ≡ Some b
      → HasLedAll b (slice_index_or old j d) (slice_index_or new j d)
  pub left : (j : ℕ) (d : Known) → k ≤ j
      → slice_index_or new j d ≡ slice_index_or old j d

-- all checks of the seats
abbrev pub checks_of : List Known → ℕ
checks_of seats = sum_by (λ s. s.knows.lead.checks) seats

-- no more checks were made than the ticker's count grew by, from m to n, and at least one where it
-- grew
pub record HaveLooked (old new : List Known) (m n : ℕ) : Type 0 where
  pub later : m ≤ n
  pub kept : checks_of old ≤ checks_of new
  pub most : checks_of new ≤ checks_of old + (n - m)
  pub some : m < n → checks_of old < checks_of new
