use Rattle.std.proofs.Common.{arith}
use Rattle.ready_queues.proofs.QueueLemmas.{may_pop}
use Rattle.ready_queues.proofs.EndLemmas.{end_at}
use Rattle.ready_queues.proofs.PopLemmas.{pop_ends, pop_node, pop_some, pop_none, pop_count}
use Rattle.ready_queues.proofs.ways.Ways.pop.Goals as goal

pub pop_as-requires-clause-rule : goal.pop_as-requires-clause-rule
pop_as-requires-clause-rule g c = let n = c.args.self.now.count in let named = (end_at _ _ _ c.requires.ends c.args.number c.index-as_slice-number.result c.index-ends-number.result (omega arith)).hand.0 in
    (may_pop _ _ named, λ _ _ _ _. tt)

pub returns-clause-ends : goal.returns-clause-ends
returns-clause-ends g c = let n = c.args.self.now.count in pop_ends _ _ _ c.requires.ends c.args.number c.index-ends-number.result c.pop_as.new.pass (omega arith) c.pop_as.ensures.queue c.pop_as.result c.pop_as.ensures.rule

pub returns-clause-node : goal.returns-clause-node
returns-clause-node g c = let n = c.args.self.now.count in pop_node _ _ _ c.requires.ends c.args.number c.index-ends-number.result c.pop_as.new.pass (omega arith) c.pop_as.ensures.queue c.index-as_slice-number.result c.pop_as.result c.pop_as.ensures.rule

pub returns-clause-some : goal.returns-clause-some
returns-clause-some g c = let n = c.args.self.now.count in pop_some _ _ _ c.requires.ends c.args.number c.index-ends-number.result c.pop_as.new.pass (omega arith) c.pop_as.ensures.queue c.pop_as.result c.pop_as.ensures.rule

pub returns-clause-none : goal.returns-clause-none
returns-clause-none g c = let n = c.args.self.now.count in pop_none _ _ _ c.requires.ends c.args.number c.index-ends-number.result c.pop_as.new.pass (omega arith) c.pop_as.ensures.queue c.pop_as.result c.pop_as.ensures.rule

pub returns-clause-count : goal.returns-clause-count
returns-clause-count g c = let n = c.args.self.now.count in pop_count _ _ _ c.requires.ends c.args.number c.index-ends-number.result c.pop_as.new.pass (omega arith) c.pop_as.ensures.queue c.pop_as.result c.pop_as.ensures.rule
