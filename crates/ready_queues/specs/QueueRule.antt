-- The rule of a ready queue: each number in it is a node of its loop, and of each node the pushes
-- of all ways are as many as the times that it was received and that it is in the queue.
-- Source: this project's own; the queue is crossbeam's ArrayQueue.
use Rattle.std.specs.Prelude.{◌≡◌, ℕ, ◌+◌, ◌⊎◌, true, List, [], ◌∷◌, length, All, eqb, filter, Some, slice_get}
use Rattle.std.specs.List.{sum_by}
use mathlib.Core.Option.{some}
use lib.ListN.{get_elem?}
use Rattle.ready_queues.specs.declared.hand.Hand.{Hand}
use Rattle.ready_queues.specs.Hands.{unnamed}

-- the node is one of the loop
abbrev pub IsNodeOf : List ℕ → ℕ → ℕ → Type 0
IsNodeOf owner number node = slice_get owner node ≡ Some number

-- how often a number is in a list
abbrev pub times : ℕ → List ℕ → ℕ
times x xs = length (filter (λ y. eqb y x) xs)

-- how often all ways pushed a number, and how often they received it
abbrev pub pushes : ℕ → List Hand → ℕ
pushes x hands = sum_by (λ h. times x h.pushed) hands

abbrev pub receipts : ℕ → List Hand → ℕ
receipts x hands = sum_by (λ h. times x h.received) hands

-- the hand is one of the queue of this loop
abbrev pub IsHandOf : List ℕ → ℕ → Hand → Type 0
IsHandOf owner number h = (h.named ≡ true) × (h.owner ≡ owner) × (h.number ≡ number)

-- the queue of a loop, which holds `items`, and in which all ways have these hands
pub record IsQueue (owner : List ℕ) (number : ℕ) (items : List ℕ) (hands : List Hand)
    : Type 0 where
  pub nodes : All (IsNodeOf owner number) items
  pub named : (k : ℕ) (h : Hand) → get_elem? hands k ≡ some h → IsHandOf owner number h
  pub balanced : (x : ℕ) → pushes x hands ≡ receipts x hands + times x items

-- a queue that has not been named for its loop holds nothing, and no way has it yet
abbrev pub IsUnnamed : List ℕ → List Hand → Type 0
IsUnnamed items hands = (items ≡ []) × (hands ≡ unnamed ∷ [])

abbrev pub Keeps : List ℕ → List Hand → Type 0
Keeps items hands = IsUnnamed items hands
    ⊎ ((owner : List ℕ) × (number : ℕ) × IsQueue owner number items hands)
