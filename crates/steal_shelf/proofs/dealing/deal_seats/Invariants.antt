use Rattle.std.proofs.Common.{◌≡◌, length}
use Rattle.std.specs.Prelude.{All}
use Rattle.steal_shelf.specs.working.Tokens.{AreDealt}
use Rattle.steal_shelf.proofs.dealing.deal_seats.Given as goal

abbrev pub invariant-loop-seat : goal.invariant-loop-seat
invariant-loop-seat l = record {
  own : l.root.table_id ≡ l.fn.root.table_id;
  me : l.root.me ≡ l.fn.root.me;
  count : length l.all ≡ l._seat;
  seats : All (AreDealt l.fn.root.table_id l.fn.root.me.0 l.cells) l.all;
}
