use Rattle.std.proofs.Common.{◌≡◌, ◌+◌, ◌≤◌, ℕ, length, slice_index}
use Rattle.board_rule.specs.start.Owners.{own_before}
use Rattle.board_rule.proofs.dealing.counts_of.Given as goal

abbrev pub invariant-loop-owner : goal.invariant-loop-owner
invariant-loop-owner l = record {
  width : length l.counts.items ≡ l.most + 1;
  counts : (k : ℕ) → k ≤ l.most → slice_index l.counts.items k ≡ own_before k l.owners l.owner-index;
}
