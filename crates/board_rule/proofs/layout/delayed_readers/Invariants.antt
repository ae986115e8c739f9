use Rattle.std.proofs.Common.{◌≡◌, ◌≤◌, take}
use Rattle.std.specs.Prelude.{count_by}
use Rattle.board_rule.specs.buffers.EndViews.{link_in}
use Rattle.board_rule.proofs.layout.delayed_readers.Given as goal

abbrev pub invariant-loop-id : goal.invariant-loop-id
invariant-loop-id l = (l.late ≡ count_by (λ i. (link_in l.shape i).delayed) (take l.id-index l.id-items)) × (l.late ≤ l.id-index)
