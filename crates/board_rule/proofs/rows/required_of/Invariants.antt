use Rattle.std.proofs.Common.{◌≡◌, map, take}
use Rattle.board_rule.proofs.rows.required_of.Given as goal

abbrev pub invariant-loop-n : goal.invariant-loop-n
invariant-loop-n l = l.row.items ≡ map (λ n. n.required) (take l.n-index l.n-items)
