use Rattle.std.proofs.Common.{◌≡◌, [], map, replicate}
use Rattle.board_rule.proofs.dealing.empty_lists.Given as goal

abbrev pub invariant-loop-count : goal.invariant-loop-count
invariant-loop-count g l = map (λ v. v.items) l.lists.items ≡ replicate l.count-index []
