use Rattle.std.proofs.Common.{arith}
use Rattle.ready_queues.proofs.StartLemmas.{deals}
use Rattle.ready_queues.proofs.start_word.StartWord.another.Goals as goal

pub split_seat-requires : goal.split_seat-requires
split_seat-requires c = let one = c.args.self.now.count in (
  c.requires.table,
  omega (arith, one),
  deals c.args.seat.now.id c.args.seat.now.me.0,
)
