use Rattle.std.proofs.Common.{◌≡◌, map, take}
use Rattle.board_rule.specs.View.{first_write}
use Rattle.board_rule.proofs.starts.first_writes.Given as goal

abbrev pub invariant-loop-link : goal.invariant-loop-link
invariant-loop-link l = l.writes.items ≡ map (first_write l.cycle) (take l.link-index l.links)
