use Rattle.ready_queues.proofs.QueueLemmas.{may_name}
use Rattle.ready_queues.proofs.opening.open_queue.Goals as goal

pub another-requires-clause-rule : goal.another-requires-clause-rule
another-requires-clause-rule g c = may_name _ _ _ _ c.in-Ok.ensures.3
