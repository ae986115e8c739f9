use Rattle.std.proofs.Common.{◌≡◌, length}
use Rattle.loop_tests.specs.Crew.{IsCrewOn}
use Rattle.loop_tests.proofs.cycle_table.first_wrong.Given as goal

abbrev pub invariant-loop-at : goal.invariant-loop-at
invariant-loop-at l = (l.at-end ≡ length l.rows) × IsCrewOn l.board l.crew
