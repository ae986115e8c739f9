-- When the driver's thread rests: at the end of a round in which nothing was done, where another
-- thread has a loop.
-- Source: PipeWire's documentation, "Graph Scheduling" and "Data loops"; that a thread has several
-- loops is this project's own.
use Rattle.std.specs.Prelude.{◌≡◌, ◌⊎◌, ℕ, ◌<◌, ◌≤◌, Bool, true, false, List, length, slice_index_or}
use Rattle.crossbeam_utils.specs.Token.{parker_view}
use Rattle.board_rule.specs.Layout.{BoardLayout}
use Rattle.ready_queues.specs.declared.way.Way.{Way}
use Rattle.data_loop.specs.declared.did.Did.TheVariants.{Ran}
use Rattle.data_loop.specs.declared.loop_state.LoopState.{LoopState}
use Rattle.data_loop.specs.LoopsOnBoards.{HasTurnedOnce}
use Rattle.driver_cycle.specs.Settling.{AreEach}
use Rattle.driver_cycle.specs.Waking.{HasTurnedIdle, HasRested}

-- the thread did not rest: its way took no token
abbrev pub HasNotRested : Way → Way → Type 0
HasNotRested a b = parker_view b.own ≡ parker_view a.own

-- a turn of a loop in which one of its nodes ran
abbrev pub HasTurnedRan : BoardLayout → LoopState → LoopState → Type 0
HasTurnedRan p s t = (node : ℕ) × HasTurnedOnce p s (Ran node) t

-- so it was in the turn of one of these loops
pub record HasOneRan (p : BoardLayout) (old new : List LoopState) : Type 0 where
  pub index : ℕ
  pub inside : index < length old
  pub ran : (d : LoopState)
      → HasTurnedRan p (slice_index_or old index d) (slice_index_or new index d)

-- SOMETHING WAS DONE in a round: it ended the cycle, or a node ran in the turn of the own loop, or
-- in that of an adopted one
abbrev pub HasWorked : Bool → BoardLayout → LoopState → LoopState → List LoopState
    → List LoopState → Type 0
HasWorked ended p own turned adopted after = (ended ≡ true) ⊎ HasTurnedRan p own turned
    ⊎ HasOneRan p adopted after

-- NOTHING WAS DONE: the cycle goes on, and no node was awake in the turn of the own loop, nor in
-- that of any adopted one
pub record HasIdled (ended : Bool) (p : BoardLayout) (own turned : LoopState)
    (adopted after : List LoopState) : Type 0 where
  pub goes_on : ended ≡ false
  pub own_idle : HasTurnedIdle p own turned
  pub adopted_idle : AreEach (HasTurnedIdle p) adopted after

-- then the thread rests once, where it has adopted fewer loops than there are, and else does
-- nothing with its way
pub record HasPaused (adopted loops : ℕ) (a b : Way) : Type 0 where
  pub rested : adopted < loops → HasRested a b
  pub alone : loops ≤ adopted → b ≡ a

-- A ROUND, from a to b: something was done, and the thread did not rest; or nothing was, and then
-- it rests where others have a loop. `turned` is the own loop after its turn
pub record EndsRound (ended : Bool) (p : BoardLayout) (loops : ℕ) (own : LoopState)
    (adopted after : List LoopState) (a b : Way) : Type 0 where
  pub turned : LoopState
  pub rest : (HasWorked ended p own turned adopted after × HasNotRested a b)
      ⊎ (HasIdled ended p own turned adopted after × HasPaused (length after) loops a b)
