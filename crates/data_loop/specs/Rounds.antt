-- The rounds of a loop in a thread of its own, on the board of one epoch: in each the number that
-- its queue gave is tried, or where it gave none there is one turn.
-- Source: PipeWire's documentation, "Graph Scheduling" and "Data loops"; that what is woken goes
-- through queues is this project's own.
use Rattle.std.specs.Prelude.{◌≡◌, ◌⊎◌, ℕ, Bool, true, false, List, [], ◌∷◌}
use Rattle.board_rule.specs.Layout.{BoardLayout}
use Rattle.ready_queues.specs.declared.way.Way.{Way}
use Rattle.ready_queues.specs.declared.ways.Ways.{Ways}
use Rattle.ready_queues.specs.QueueRule.{IsNodeOf}
use Rattle.ready_queues.specs.Receiving.{HasReceived, AreSameEnds, IsSameThread}
use Rattle.data_loop.specs.declared.did.Did.{Did}
use Rattle.data_loop.specs.declared.loop_state.LoopState.{LoopState}
use Rattle.data_loop.specs.LoopTries.{HasTurnedAt, HasWoken}
use Rattle.data_loop.specs.PassingOn.{PassesOn, HasTriedAll}

-- the way received this number, a node of its own loop, and did nothing else
pub record HasReceivedOne (ways : Ways) (node : ℕ) (a b : Way) : Type 0 where
  pub thread : IsSameThread a b
  pub own : IsNodeOf ways.owner a.number node
  pub received : HasReceived a.number node a.ends.items b.ends.items

-- the way received nothing, and did nothing else
pub record HasReceivedNone (a b : Way) : Type 0 where
  pub thread : IsSameThread a b
  pub same : AreSameEnds a.ends.items b.ends.items

-- A NUMBER was received and tried: the node of that very number, and what it woke was passed on
pub record HasTriedGiven (p : BoardLayout) (ways : Ways) (s : LoopState) (a : Way)
    (t : LoopState) (b : Way) : Type 0 where
  pub node : ℕ
  pub did : Did
  pub way : Way
  pub received : HasReceivedOne ways node a way
  pub turned : HasTurnedAt p node s did t
  pub woken : HasWoken did t
  pub passed : PassesOn ways did t way b

-- NOTHING was received, and there was one turn
pub record HasTriedRest (settled : Bool) (p : BoardLayout) (ways : Ways) (s : LoopState)
    (a : Way) (t : LoopState) (b : Way) : Type 0 where
  pub way : Way
  pub received : HasReceivedNone a way
  pub tried : HasTriedAll settled p ways s way t b

-- A ROUND is one of the two; its answer is whether it was a turn that found no follower with cycles
-- left
abbrev pub IsRound : Bool → BoardLayout → Ways → LoopState → Way → LoopState → Way → Type 0
IsRound settled p ways s a t b =
    ((settled ≡ false) × HasTriedGiven p ways s a t b) ⊎ HasTriedRest settled p ways s a t b

-- ROUNDS, one after the other, from s and a over what is in the list to t and b: the last one, and
-- no other, was a turn that found no follower with cycles left
abbrev pub AreRounds : BoardLayout → Ways → List (LoopState × Way) → LoopState → Way
    → LoopState → Way → Type 0
AreRounds p ways [] s a t b = IsRound true p ways s a t b
AreRounds p ways (m ∷ ms) s a t b = IsRound false p ways s a m.0 m.1
    × AreRounds p ways ms m.0 m.1 t b

-- the rounds on the board, up to that turn
abbrev pub HasMadeRounds : BoardLayout → Ways → LoopState → Way → LoopState → Way → Type 0
HasMadeRounds p ways s a t b = (between : List (LoopState × Way))
    × AreRounds p ways between s a t b
