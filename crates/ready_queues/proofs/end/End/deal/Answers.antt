use Rattle.std.proofs.Common.{ap}
use Rattle.ready_queues.specs.declared.hand.Hand.{Hand}
use Rattle.ready_queues.proofs.QueueLemmas.{may_deal}
use Rattle.ready_queues.proofs.end.End.deal.Goals as goal

pub another-requires-clause-rule : goal.another-requires-clause-rule
another-requires-clause-rule c = may_deal _ _ (ap (λ (h : Hand). h.named) c.requires.fresh.unused.hand)
