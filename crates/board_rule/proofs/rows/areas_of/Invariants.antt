use Rattle.std.proofs.Common.{◌≡◌, ◌≤◌, ◌*◌, take}
use Rattle.pw_graph.specs.Layout.{area_count}
use Rattle.board_rule.proofs.rows.areas_of.Given as goal

abbrev pub invariant-loop-link : goal.invariant-loop-link
invariant-loop-link l = (l.areas ≡ area_count (take l.link-index l.links)) × (l.areas ≤ 2 * l.link-index)
