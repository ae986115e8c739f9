-- The rounds of the driver's thread on the board of an epoch, one after the other: what was done in
-- each, and whom it asked.
-- Source: PipeWire's documentation, "Graph Scheduling" and "Data loops"; that a ticker says when a
-- check is due is this project's own.
use Rattle.std.specs.Prelude.{◌≡◌, ◌⊎◌, ℕ, Bool, true, false, not, length}
use Rattle.board_rule.specs.declared.board.Board.{Board}
use Rattle.board_rule.specs.Layout.{BoardLayout}
use Rattle.board_rule.specs.OnBoard.{layout, table_of}
use Rattle.ready_queues.specs.declared.way.Way.{Way}
use Rattle.ready_queues.specs.declared.ways.Ways.{Ways}
use Rattle.data_loop.specs.declared.loop_state.LoopState.{LoopState}
use Rattle.driver_cycle.specs.Asking.{IsAskedBy}
use Rattle.driver_cycle.specs.Concluding.{IsClaimed}
use Rattle.driver_cycle.specs.Leading.{IsDriving}
use Rattle.driver_cycle.specs.Rounds.{BeginsNext}
use Rattle.driver_cycle.specs.Settling.{HasSettled, AreEach}
use Rattle.driver_cycle.specs.Stands.{AreInTurn, Stand, HaveTakenTurns}
use Rattle.driver_cycle.specs.Waking.{HasTakenTurn, HasRested, SendsBegun}
use Rattle.driver_cycle.specs.working.Resting.{EndsRound}

-- of a ticker with these ticks and answers, on a board with these queues
module _ {K : Type 0} (ticks : K → ℕ) (answers : K → Bool → K → Type 0) (p : BoardLayout)
    (ways : Ways) where
  -- A ROUND: one turn of the own loop, one of each adopted loop in order, and one claim of the
  -- driver's node, which asks the ticker where it came too early and the cycle has had no check;
  -- then a rest, where nothing was done and another thread has a loop, and nothing else was done
  -- with the way. `ended`: the cycle has ended
  pub record HasMadeRound (ended : Bool) (s t : Stand K) : Type 0 where
    pub own_ran : Bool
    pub turned : LoopState
    pub sent : Way
    pub own : HasTakenTurn own_ran p ways s.own s.way turned sent
    pub after : Way
    pub adopted : HaveTakenTurns p ways s.adopted t.adopted sent (length s.adopted) after
    pub claimed : IsClaimed ended p s.seat.knows (ticks s.ticker) (ticks t.ticker) t.seat.knows
    pub asked : IsAskedBy answers ended s.seat.knows.lead.checked s.ticker t.ticker
    pub driving : IsDriving p t.seat.knows (not ended)
    pub rest : EndsRound ended p ways.loops s.own s.adopted t.adopted s.way t.way
    pub last : (t.way ≡ after) ⊎ HasRested after t.way

  -- some rounds, none of which ended the cycle
  abbrev pub HaveMadeRounds : Stand K → Stand K → Type 0
  HaveMadeRounds s t = (k : ℕ) × AreInTurn (HasMadeRound false) k s t

  -- THE ROUNDS of a cycle: the last, and no other, ended it
  pub record HasMadeCycle (s t : Stand K) : Type 0 where
    pub before : Stand K
    pub rounds : HaveMadeRounds s before
    pub last : HasMadeRound true before t

  -- the beginning of a cycle, which is sent; nothing else is done
  pub record HasBegunSent (s t : Stand K) : Type 0 where
    pub begins : BeginsNext p s.seat.knows true t.seat.knows
    pub sends : SendsBegun true ways t.seat.knows s.way t.way
    pub own : t.own ≡ s.own
    pub adopted : t.adopted ≡ s.adopted
    pub ticker : t.ticker ≡ s.ticker

  -- A CYCLE is begun, and then made in rounds
  pub record HasGoneCycle (s t : Stand K) : Type 0 where
    pub begun : Stand K
    pub begins : HasBegunSent s begun
    pub rounds : HasMadeCycle begun t

  -- some cycles
  abbrev pub HaveMadeCycles : Stand K → Stand K → Type 0
  HaveMadeCycles s t = (k : ℕ) × AreInTurn HasGoneCycle k s t

-- ALL CYCLES that were left of the epoch, after which only the loops were settled; that none is
-- left is said by `HasEndedAll`, beside it
pub record HasMadeAll {K : Type 0} (ticks : K → ℕ) (answers : K → Bool → K → Type 0)
    (board : Board) (ways : Ways) (s t : Stand K) : Type 0 where
  pub last : Stand K
  pub cycles : HaveMadeCycles ticks answers (layout board) ways s last
  pub seat : t.seat ≡ last.seat
  pub own : HasSettled (layout board) (table_of board) last.own t.own
  pub adopted : AreEach (HasSettled (layout board) (table_of board)) last.adopted t.adopted
  pub way : t.way ≡ last.way
  pub ticker : t.ticker ≡ last.ticker
