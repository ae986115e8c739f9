use Rattle.ready_queues.specs.AnsweredWith.{IsWayOf}
use Rattle.board_tests.proofs.queues.feed.Given as goal

abbrev pub invariant-loop : goal.invariant-loop
invariant-loop g l = (goal.iterator-loop g).can_next l.iterator' × (goal.iterator-loop g).is_finite l.iterator'
    × IsWayOf l.ways l.way
