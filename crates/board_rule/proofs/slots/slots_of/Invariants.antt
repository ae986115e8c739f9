use Rattle.std.proofs.Common.{◌≡◌, ◌+◌, ◌<◌, ◌≤◌, ℕ, length, slice_index}
use Rattle.board_rule.specs.start.Owners.{own_before, slot_in}
use Rattle.board_rule.proofs.slots.slots_of.Given as goal

abbrev pub invariant-loop-owner : goal.invariant-loop-owner
invariant-loop-owner l = record {
  made : length l.slots.items ≡ l.owner-index;
  slots : (i : ℕ) → i < l.owner-index → slice_index l.slots.items i ≡ slot_in l.owners i;
  width : length l.counts.items ≡ l.most + 1;
  counts : (k : ℕ) → k ≤ l.most → slice_index l.counts.items k ≡ own_before k l.owners l.owner-index;
}
