use Rattle.std.proofs.Common.{◌≡◌}
use Rattle.ready_queues.specs.AnsweredWith.{IsWayOf}
use Rattle.board_tests.proofs.queues.receive_all.Given as goal

abbrev pub invariant-loop : goal.invariant-loop
invariant-loop g l = IsWayOf l.ways l.way × (l.way.number ≡ l.fn.way.number)
