-- Sending: which nodes of a set of bits are pushed into the queue of which loop, and what a way
-- knows of it afterwards.
-- Source: this project's own.
use Rattle.std.specs.Prelude.{◌≡◌, ℕ, ◌<◌, Bool, ◌&&◌, not, cond, eqb, List, [], ◌∷◌, ◌++◌, length, filter, Some, slice_get, slice_index}
use Rattle.std.specs.Int.{bit_at}
use Rattle.std.specs.List.{range_with_len}
use Rattle.crossbeam_utils.specs.Token.{parker_view}
use Rattle.ready_queues.specs.declared.hand.Hand.{Hand}
use Rattle.ready_queues.specs.declared.end.End.{End}
use Rattle.ready_queues.specs.declared.way.Way.{Way}
use Rattle.ready_queues.specs.Ends.{hand_of, wakes_of, AreSameSights}
use Rattle.ready_queues.specs.ParkingRule.{given_on}
use Rattle.ready_queues.specs.QueueRule.{IsNodeOf}

-- whether a node is one of the loop, and whether it is in the set too
abbrev pub is_of : List ℕ → ℕ → ℕ → Bool
is_of owner number node = eqb (slice_index owner node) number

abbrev pub is_bound : List ℕ → ℕ → ℕ → ℕ → Bool
is_bound owner woke number node = eqb (bit_at woke node) 1 && is_of owner number node

-- the nodes below n in the set that are of the loop, ascending
abbrev pub bound_below : ℕ → List ℕ → ℕ → ℕ → List ℕ
bound_below n owner woke number = filter (is_bound owner woke number) (range_with_len 0 n)

-- those of them that were taken: whose bit the answer does not have
abbrev pub taken_in : ℕ → List ℕ → ℕ → ℕ → ℕ → List ℕ
taken_in n owner woke full number =
    filter (λ x. not (eqb (bit_at full x) 1)) (bound_below n owner woke number)

abbrev pub pushed_on : Hand → List ℕ → Hand
pushed_on h nodes = record h { pushed = h.pushed ++ nodes }

-- how often a loop is unparked for n nodes of it, where one loop, or none, is spared
abbrev pub wakes_for : ℕ → ℕ → ℕ → ℕ
wakes_for spared number n = cond (eqb number spared) 0 n

-- the end of a loop before and after one node was sent, which came back or was taken
pub record HasSentNode (owner : List ℕ) (spared node : ℕ) (full : Bool) (number : ℕ)
    (a b : End) : Type 0 where
  pub hand : hand_of b ≡ pushed_on (hand_of a)
      (cond (is_of owner number node && not full) (node ∷ []) [])
  pub wakes : wakes_of b ≡ given_on (wakes_of a)
      (wakes_for spared number (cond (is_of owner number node) 1 0))

abbrev pub AreSentNode : List ℕ → ℕ → ℕ → Bool → List End → List End → Type 0
AreSentNode owner spared node full old new = (l : ℕ) (a b : End) → slice_get old l ≡ Some a
    → slice_get new l ≡ Some b → HasSentNode owner spared node full l a b

-- the end of a loop before and after the nodes below n were sent
pub record HasSentTo (owner : List ℕ) (spared woke full n number : ℕ) (a b : End)
    : Type 0 where
  pub hand : hand_of b ≡ pushed_on (hand_of a) (taken_in n owner woke full number)
  pub wakes : wakes_of b ≡ given_on (wakes_of a)
      (wakes_for spared number (length (bound_below n owner woke number)))

abbrev pub HaveSent : List ℕ → ℕ → ℕ → ℕ → ℕ → List End → List End → Type 0
HaveSent owner spared woke full n old new = (l : ℕ) (a b : End) → slice_get old l ≡ Some a
    → slice_get new l ≡ Some b → HasSentTo owner spared woke full n l a b

-- the node is one of a loop, of so many
abbrev pub IsOfSomeLoop : List ℕ → ℕ → ℕ → Type 0
IsOfSomeLoop owner loops node = (number : ℕ) × (number < loops) × IsNodeOf owner number node

-- a node that may come back: it was to be sent, to a loop
abbrev pub IsRefused : List ℕ → ℕ → ℕ → ℕ → Type 0
IsRefused owner loops woke node = (bit_at woke node ≡ 1) × IsOfSomeLoop owner loops node

-- the nodes of the set were sent, no loop was spared, and the driver's thread was unparked; `full`
-- has the bits of those that came back and were not pushed
pub record HasSent (owner : List ℕ) (loops woke full : ℕ) (a b : Way) : Type 0 where
  pub number : b.number ≡ a.number
  pub own : parker_view b.own ≡ parker_view a.own
  pub ends : HaveSent owner loops woke full (length owner) a.ends.items b.ends.items
  pub driver : parker_view b.driver ≡ given_on (parker_view a.driver) 1
  pub begins : b.begins ≡ a.begins
  pub sights : AreSameSights a.ends.items b.ends.items
  pub refused : (node : ℕ) → bit_at full node ≡ 1 → IsRefused owner loops woke node
