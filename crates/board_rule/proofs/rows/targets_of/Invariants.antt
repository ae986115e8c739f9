use Rattle.std.proofs.Common.{◌≡◌, map, take}
use Rattle.board_rule.specs.Layout.{index_in}
use Rattle.board_rule.proofs.rows.targets_of.Given as goal

abbrev pub invariant-loop-n : goal.invariant-loop-n
invariant-loop-n l = map (λ row. row.items) l.rows.items ≡ map (λ n. map (index_in l.shape) n.targets) (take l.n-index l.n-items)
