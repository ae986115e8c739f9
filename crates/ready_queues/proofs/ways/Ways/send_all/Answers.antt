use Rattle.std.proofs.Common.{◌∙◌, arith, refl}
use Rattle.ready_queues.proofs.SendLemmas.{begins, not_yet, goes_on, all_sent}
use Rattle.ready_queues.proofs.SightLemmas.{same_all, same_more}
use Rattle.ready_queues.proofs.ways.Ways.send_all.Goals as goal

pub loop-node-init : goal.loop-node-init
loop-node-init g c = let ways = c.args.self.now in (c.requires.ends, (0, begins ways.owner ways.loops c.args.spared c.args.woke c.args.ends.now), refl, same_all c.args.ends.now)

pub noted-full-requires-clause-new : goal.noted-full-requires-clause-new
noted-full-requires-clause-new g c = let ways = c.args.self.now in let l = c.loop-node in let i = l.invariant.1 in
    i.1.above c.in-Some.node (not_yet ways.owner ways.loops c.args.spared c.args.woke c.args.ends.now l.rest l.full l.ends i.0 c.in-Some.node i.1 c.in-Some.ensures.some.1)

pub loop-node-preserved : goal.loop-node-preserved
loop-node-preserved g c = let ways = c.args.self.now in let l = c.loop-node in let i = l.invariant in let s = c.send_node in let n = c.in-Some.node in let w = c.noted-full in
    let first = c.in-Some.ensures.some in let cut = c.without-rest.ensures in let few = ways.nodes in let long = l.auto.ends in (
      s.ensures.ends,
      (
        _,
        goes_on ways.owner ways.loops c.args.spared c.args.woke c.args.ends.now l.rest l.full l.ends i.1.0 n c.without-rest.result w.result s.result s.new.ends i.1.1
            (omega (arith, first.0, c.len.ensures)) first.1 first.2 few long w.ensures.here w.ensures.others s.ensures.sent s.ensures.full cut.here cut.others,
      ),
      s.ensures.count ∙ i.2,
      same_more c.args.ends.now l.ends s.new.ends long i.3 s.ensures.sights,
    )

pub returns-clause-sent : goal.returns-clause-sent
returns-clause-sent g c = let ways = c.args.self.now in let l = c.loop-node in let i = l.invariant.1 in
    all_sent ways.owner ways.loops c.args.spared c.args.woke c.args.ends.now l.rest l.full l.ends i.0 i.1
    (λ x h. c.in_default.ensures.none x (omega (arith, h, c.len.ensures)))

pub returns-clause-refused : goal.returns-clause-refused
returns-clause-refused g c = c.loop-node.invariant.1.1.refused

pub returns-clause-sights : goal.returns-clause-sights
returns-clause-sights g c = c.loop-node.invariant.3
