use Rattle.std.proofs.Common.{◌∙◌, arith}
use Rattle.ready_queues.proofs.SendLemmas.{node_sent, none_sent, node_count}
use Rattle.ready_queues.proofs.SightLemmas.{same_set, same_all}
use Rattle.ready_queues.proofs.ways.Ways.send_node.Goals as goal

pub returns-in-Some-clause-sent : goal.returns-in-Some-clause-sent
returns-in-Some-clause-sent g c = node_sent c.args.self.now.owner c.args.spared c.args.node c.in-Some.number c.push.result c.args.ends.now c.index-ends-number.result c.push.new.self
    c.in-Some.ensures.some.1 c.push.ensures.hand c.push.ensures.wakes

pub returns-in-Some-clause-sights : goal.returns-in-Some-clause-sights
returns-in-Some-clause-sights g c = same_set c.args.ends.now c.in-Some.number c.index-ends-number.result c.push.new.self c.push.ensures.sight

pub returns-in-Some-clause-full : goal.returns-in-Some-clause-full
returns-in-Some-clause-full g c = λ _. let s = c.in-Some.ensures.some in (c.in-Some.number, s.0, s.1)

pub returns-in-Some-clause-count : goal.returns-in-Some-clause-count
returns-in-Some-clause-count g c = let n = c.args.self.now.count in let m = c.requires.ends.count in let s = c.in-Some.ensures.some.0 in
    node_count c.args.node c.push.result c.args.ends.now c.in-Some.number c.index-ends-number.result c.push.new.self (omega arith) c.push.ensures.hand

pub returns-in-None-clause-sent : goal.returns-in-None-clause-sent
returns-in-None-clause-sent g c = none_sent c.args.self.now.owner c.args.spared c.args.node c.args.self.now.loops c.args.ends.now (c.requires.ends.count ∙ c.args.self.now.count) c.in-None.ensures.none

pub returns-in-None-clause-sights : goal.returns-in-None-clause-sights
returns-in-None-clause-sights g c = same_all c.args.ends.now
