use Rattle.std.proofs.Common.{inl, arith}
use Rattle.ready_queues.proofs.ForwardLemmas.{drivers_own}
use Rattle.ready_queues.proofs.ways.Ways.is_watched.Goals as goal

pub returns-in-None-clause-yes : goal.returns-in-None-clause-yes
returns-in-None-clause-yes c = let ways = c.args.self.now in
    let low = c.if-node-len.false in let n = c.len.ensures in
    λ _. inl (drivers_own ways.owner ways.loops c.args.node (ways.owners c.args.node 0 (omega arith)) c.in-None.ensures.none)
