use Rattle.std.proofs.Common.{◌≡◌, ◌++◌, take}
use Rattle.std.specs.List.{flat_map}
use Rattle.pw_graph.specs.Layout.{io_start}
use Rattle.board_rule.proofs.layout.push_areas.Given as goal

abbrev pub invariant-loop-link : goal.invariant-loop-link
invariant-loop-link l = l.words ≡ l.fn.words ++ flat_map (io_start l.first) (take l.link-index l.links)
