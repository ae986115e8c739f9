-- The driver's thread between two rounds, and the turns that it gives to loops.
-- Source: PipeWire's documentation, "Data loops"; that a thread has several loops is this project's own.
use Rattle.std.specs.Prelude.{◌≡◌, ℕ, zero, suc, Bool, List, slice_index_or}
use Rattle.board_rule.specs.Known.{Known}
use Rattle.board_rule.specs.Layout.{BoardLayout}
use Rattle.ready_queues.specs.declared.way.Way.{Way}
use Rattle.ready_queues.specs.declared.ways.Ways.{Ways}
use Rattle.data_loop.specs.declared.loop_state.LoopState.{LoopState}
use Rattle.driver_cycle.specs.Waking.{HasTakenTurn}

-- from a to b by k of these, one after the other
abbrev pub AreInTurn : {A : Type 0} → (A → A → Type 0) → ℕ → A → A → Type 0
AreInTurn R zero a b = b ≡ a
AreInTurn {A} R (suc k) a b = (m : A) × AreInTurn R k a m × R m b

-- THE THREAD between two rounds: its seat, its loops, its way, and the ticker that it asks
pub record Stand (K : Type 0) : Type 0 where
  pub seat : Known
  pub own : LoopState
  pub adopted : List LoopState
  pub way : Way
  pub ticker : K

abbrev pub stand : {K : Type 0} → Known → LoopState → List LoopState → Way → K → Stand K
stand s own adopted way ticker = record { seat = s; own = own; adopted = adopted; way = way; ticker = ticker }

-- of these loops those before k had one turn each, in order, and what each turn woke was sent; the
-- way went from a to b
abbrev pub HaveTakenTurns : BoardLayout → Ways → List LoopState → List LoopState → Way → ℕ → Way
    → Type 0
HaveTakenTurns p ways old new a zero b = b ≡ a
HaveTakenTurns p ways old new a (suc k) b = (ran : Bool) × (way : Way)
    × HaveTakenTurns p ways old new a k way
    × ((d : LoopState) → HasTakenTurn ran p ways (slice_index_or old k d) way
    (slice_index_or new k d) b)
