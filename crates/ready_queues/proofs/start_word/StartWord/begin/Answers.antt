use Rattle.std.proofs.Common.{arith}
use Rattle.ready_queues.proofs.StartLemmas.{begins}
use Rattle.ready_queues.proofs.start_word.StartWord.begin.Goals as goal

pub store-requires : goal.store-requires
store-requires c = let s = c.args.self.now.table.shared in let one = c.args.self.now.count in (
  c.requires.table,
  omega (arith, one),
  begins s.table_id.slots c.args.seat.now.id c.args.seat.now.me c.requires.own,
)
