-- Receiving: what a way knows after it took a number out of the queue of its loop.
-- Source: this project's own.
use Rattle.std.specs.Prelude.{◌≡◌, ℕ, cond, eqb, List, Some, slice_get}
use Rattle.crossbeam_utils.specs.Token.{parker_view}
use Rattle.ready_queues.specs.declared.end.End.{End}
use Rattle.ready_queues.specs.declared.way.Way.{Way}
use Rattle.ready_queues.specs.ParkingRule.{taken_on}
use Rattle.ready_queues.specs.Ends.{hand_of, wakes_of, sight_of}
use Rattle.ready_queues.specs.Hands.{with_received}

-- no end has pushed, received, given a token or looked since
pub record IsSameEnd (a b : End) : Type 0 where
  pub hand : hand_of b ≡ hand_of a
  pub wakes : wakes_of b ≡ wakes_of a
  pub sight : sight_of b ≡ sight_of a

abbrev pub AreSameEnds : List End → List End → Type 0
AreSameEnds old new = (l : ℕ) (a b : End) → slice_get old l ≡ Some a
    → slice_get new l ≡ Some b → IsSameEnd a b

-- the node was received at the end of the loop, and nothing else was done
pub record HasReceivedAt (number node l : ℕ) (a b : End) : Type 0 where
  pub hand : hand_of b ≡ cond (eqb l number) (with_received (hand_of a) node) (hand_of a)
  pub wakes : wakes_of b ≡ wakes_of a
  pub sight : sight_of b ≡ sight_of a

abbrev pub HasReceived : ℕ → ℕ → List End → List End → Type 0
HasReceived number node old new = (l : ℕ) (a b : End) → slice_get old l ≡ Some a
    → slice_get new l ≡ Some b → HasReceivedAt number node l a b

-- the way is still that of its thread, started or not as before, and has given and taken no token
-- since
pub record IsSameThread (a b : Way) : Type 0 where
  pub number : b.number ≡ a.number
  pub own : parker_view b.own ≡ parker_view a.own
  pub driver : parker_view b.driver ≡ parker_view a.driver
  pub begins : b.begins ≡ a.begins

-- the way has rested once, and done nothing else
pub record HasRested (a b : Way) : Type 0 where
  pub number : b.number ≡ a.number
  pub ends : b.ends ≡ a.ends
  pub own : parker_view b.own ≡ taken_on (parker_view a.own) 1
  pub driver : parker_view b.driver ≡ parker_view a.driver
  pub begins : b.begins ≡ a.begins
