use Rattle.std.proofs.Common.{◌≡◌, ◌≤◌, length}
use Rattle.std.specs.Prelude.{take}
use Rattle.pw_graph.specs.Layout.{area_count}
use Rattle.loop_tests.proofs.words.area_count.Given as goal

abbrev pub invariant-loop-link : goal.invariant-loop-link
invariant-loop-link l = (l.link-index-end ≡ length l.links) × (l.areas ≤ area_count (take l.link-index l.links))
