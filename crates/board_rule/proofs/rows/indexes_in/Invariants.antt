use Rattle.std.proofs.Common.{◌≡◌, map, take}
use Rattle.board_rule.specs.Layout.{index_in}
use Rattle.board_rule.proofs.rows.indexes_in.Given as goal

abbrev pub invariant-loop-n : goal.invariant-loop-n
invariant-loop-n l = l.found.items ≡ map (index_in l.shape) (take l.n-index l.nodes)
