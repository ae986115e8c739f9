use Rattle.std.specs.Prelude.{All}
use Rattle.soak_tests.specs.Threads.{CanStart}
use Rattle.soak_tests.proofs.taken.start_all.Given as goal

abbrev pub invariant-loop-one : goal.invariant-loop-one
invariant-loop-one g l = All (CanStart l.common.boards l.common.ways) l.one-iterator.rest.items
