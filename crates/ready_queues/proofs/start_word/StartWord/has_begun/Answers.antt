use Rattle.std.proofs.Common.{arith}
use Rattle.ready_queues.proofs.StartLemmas.{looks}
use Rattle.ready_queues.proofs.start_word.StartWord.has_begun.Goals as goal

pub load-requires : goal.load-requires
load-requires c = let s = c.args.self.now.table.shared in let one = c.args.self.now.count in (
  c.requires.table,
  omega (arith, one),
  looks s.table_id.slots c.args.seat.now.id c.args.seat.now.me,
)
