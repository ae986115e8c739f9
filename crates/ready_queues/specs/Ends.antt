-- The ends of a way: its pass to the queue of each loop, its pass to that loop's parker, and its
-- seat of that loop's start word.
-- Source: this project's own.
use Rattle.std.specs.Prelude.{◌≡◌, ℕ, List, length, Some, slice_get}
use Rattle.std.specs.List.{sum_by}
use Rattle.crossbeam_queue.specs.Passes.{view, IsPassOf}
use Rattle.crossbeam_utils.specs.Token.{parker_view}
use Rattle.ready_queues.specs.declared.hand.Hand.{Hand}
use Rattle.ready_queues.specs.declared.parking.Woken.{Woken}
use Rattle.ready_queues.specs.declared.start_view.StartView.{StartView}
use Rattle.ready_queues.specs.declared.end.End.{End}
use Rattle.ready_queues.specs.declared.lane.Lane.{Lane}
use Rattle.ready_queues.specs.Lanes.{parker_of, start_of}
use Rattle.ready_queues.specs.QueueRule.{IsHandOf}

-- what the way has done with the queue, and with the parker, and what it has seen of the start
abbrev pub hand_of : End → Hand
hand_of e = view e.pass

abbrev pub wakes_of : End → Woken
wakes_of e = parker_view e.wake

abbrev pub sight_of : End → StartView
sight_of e = e.sight.me.0

-- the end is to this loop, whose queue, unparker and start word are in the lane
pub record IsEndOf (owner : List ℕ) (number : ℕ) (lane : Lane) (e : End) : Type 0 where
  pub pass : IsPassOf lane.queue e.pass
  pub wake : e.wake.table_id ≡ parker_of lane
  pub start : e.sight.table_id ≡ start_of lane
  pub hand : IsHandOf owner number (hand_of e)

-- the ends are to the loops of these lanes, in their order
pub record AreEndsOf (owner : List ℕ) (lanes : List Lane) (ends : List End) : Type 0 where
  pub count : length ends ≡ length lanes
  pub each : (l : ℕ) (lane : Lane) (e : End) → slice_get lanes l ≡ Some lane
      → slice_get ends l ≡ Some e → IsEndOf owner l lane e

-- nothing was seen or missed of any start
abbrev pub AreSameSights : List End → List End → Type 0
AreSameSights old new = (l : ℕ) (a b : End) → slice_get old l ≡ Some a
    → slice_get new l ≡ Some b → sight_of b ≡ sight_of a

-- how many numbers were received in all
abbrev pub received_by : List End → ℕ
received_by ends = sum_by (λ e. length (hand_of e).received) ends
