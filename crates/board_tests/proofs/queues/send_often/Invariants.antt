use Rattle.ready_queues.specs.AnsweredWith.{IsWayOf}
use Rattle.board_tests.proofs.queues.send_often.Given as goal

abbrev pub invariant-loop : goal.invariant-loop
invariant-loop g l = IsWayOf l.ways l.way
