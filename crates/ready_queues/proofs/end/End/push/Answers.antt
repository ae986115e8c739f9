use Rattle.ready_queues.proofs.QueueLemmas.{may_push}
use Rattle.ready_queues.proofs.end.End.push.Goals as goal

pub push_as-requires-clause-rule : goal.push_as-requires-clause-rule
push_as-requires-clause-rule g c = let named = c.requires.end.hand.0 in (may_push _ _ _ c.args.node named c.requires.node, λ _ _ _ _. tt)
