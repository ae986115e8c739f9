-- The parts so far have moved, and the others are as before.
use Rattle.graph_plan.proofs.linked_parts.MovingTogetherLemmas.{IsGoing}
use Rattle.graph_plan.proofs.moving.go_all.Given as goal

abbrev pub invariant-loop-epoch : goal.invariant-loop-epoch
invariant-loop-epoch l = IsGoing l.waves l.line l.fn.epochs l.fn.members l.members l.yielded l.k l.epoch-iterator.rest.items
