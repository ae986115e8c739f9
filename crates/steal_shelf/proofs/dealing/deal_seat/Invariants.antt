use Rattle.std.proofs.Common.{◌≡◌, length}
use Rattle.steal_shelf.proofs.DealLemmas.{AreTokens}
use Rattle.steal_shelf.proofs.dealing.deal_seat.Given as goal

abbrev pub invariant-loop-cell : goal.invariant-loop-cell
invariant-loop-cell l = record {
  own : l.root.table_id ≡ l.fn.root.table_id;
  me : l.root.me ≡ l.fn.root.me;
  count : length l.tokens.items ≡ l.cell;
  tokens : AreTokens l.fn.root.table_id l.fn.root.me.0 l.tokens.items;
}
