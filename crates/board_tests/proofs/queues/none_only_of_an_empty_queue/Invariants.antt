use Rattle.std.proofs.Common.{◌≡◌}
use Rattle.ready_queues.specs.AnsweredWith.{IsWayOf}
use Rattle.board_tests.proofs.queues.none_only_of_an_empty_queue.Given as goal

abbrev pub invariant-loop-pushes : goal.invariant-loop-pushes
invariant-loop-pushes g l = IsWayOf l.ways l.driver × IsWayOf l.ways l.first × (l.first.number ≡ 0)
