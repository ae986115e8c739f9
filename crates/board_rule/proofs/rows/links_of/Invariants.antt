use Rattle.std.proofs.Common.{◌≡◌, ◌<◌, ◌≤◌, ◌+◌, ◌*◌, ℕ, length}
use Rattle.std.specs.Prelude.{slice_index_or}
use Rattle.pw_graph.specs.Layout.{node_count, io_place}
use Rattle.board_rule.specs.declared.rows.LinkRow.{LinkRow}
use Rattle.board_rule.specs.buffers.EndViews.{link_in}
use Rattle.board_rule.specs.working.Rows.{IsLinkRow}
use Rattle.board_rule.proofs.rows.links_of.Given as goal

abbrev pub invariant-loop-link : goal.invariant-loop-link
invariant-loop-link l = (length l.rows.items ≡ l.link-index) × (l.area ≡ io_place l.shape l.link-index 0)
    × (l.area ≤ 1 + 2 * node_count l.shape + 2 * l.link-index)
    × ((j : ℕ) (d : LinkRow) → j < l.link-index → IsLinkRow l.shape (link_in l.shape j) (io_place l.shape j 0)
    (slice_index_or l.rows.items j d))
