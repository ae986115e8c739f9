use Rattle.std.proofs.Common.{◌≡◌, length, true, false}
use Rattle.board_rule.specs.OnBoard.{layout, table_of}
use Rattle.data_loop.specs.LoopWay.{IsDriverWay}
use Rattle.driver_cycle.specs.Settling.{HasHadTurns, AreEachBelow}
use Rattle.driver_cycle.specs.Stands.{HaveTakenTurns}
use Rattle.driver_cycle.specs.Waking.{HasTurnedIdle}
use Rattle.driver_cycle.specs.working.Resting.{HasNotRested}
use Rattle.driver_cycle.proofs.RestLemmas.{HasOneRanBelow}
use Rattle.driver_cycle.proofs.turning.turn_all.Given as goal

abbrev pub invariant-loop-k : goal.invariant-loop-k
invariant-loop-k g l = record {
  end : l.k-end ≡ length l.fn.states;
  turned : AreEachBelow (HasHadTurns (layout l.at.board.now) (table_of l.at.board.now)) l.k l.fn.states l.states;
  idle : l.ran ≡ false → AreEachBelow (HasTurnedIdle (layout l.at.board.now)) l.k l.fn.states l.states;
  ran : l.ran ≡ true → HasOneRanBelow (layout l.at.board.now) l.k l.fn.states l.states;
  quiet : l.ran ≡ false → l.way ≡ l.fn.way;
  took : HaveTakenTurns (layout l.at.board.now) l.at.ways.now l.fn.states l.states l.fn.way l.k l.way;
  still : HasNotRested l.fn.way l.way;
  way : IsDriverWay l.at.ways.now l.way;
}
