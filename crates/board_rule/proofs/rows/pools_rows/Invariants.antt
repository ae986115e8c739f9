use Rattle.std.proofs.Common.{◌≡◌, ◌<◌, ◌≤◌, ◌+◌, ℕ, length, take}
use Rattle.std.specs.Prelude.{slice_index_or, sum_by}
use Rattle.pw_graph.specs.Layout.{event_place, event_count, pool_words}
use Rattle.pw_graph.specs.Pools.{pools_of}
use Rattle.board_rule.specs.declared.rows.PoolRow.{PoolRow}
use Rattle.board_rule.specs.buffers.EndViews.{pool_in}
use Rattle.board_rule.specs.working.Rows.{IsPoolRow}
use Rattle.board_rule.proofs.rows.pools_rows.Given as goal

abbrev pub invariant-loop-pool : goal.invariant-loop-pool
invariant-loop-pool l = (length l.rows.items ≡ l.pool-index) × (l.first ≡ sum_by (λ x. x.blocks) (take l.pool-index (pools_of l.shape)))
    × (l.base ≡ event_place l.shape (event_count l.shape) + sum_by pool_words (take l.pool-index (pools_of l.shape))) × (l.first ≤ l.base)
    × ((j : ℕ) (d : PoolRow) → j < l.pool-index → IsPoolRow l.shape (pool_in l.shape j) (sum_by (λ x. x.blocks) (take j (pools_of l.shape)))
    (event_place l.shape (event_count l.shape) + sum_by pool_words (take j (pools_of l.shape))) (slice_index_or l.rows.items j d))
