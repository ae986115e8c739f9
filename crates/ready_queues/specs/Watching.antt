-- Watching: which nodes the driver's thread must see to, by what a way has seen of the starts.
-- Source: this project's own.
use Rattle.std.specs.Prelude.{◌≡◌, ◌<◌, ◌≤◌, ◌⊎◌, ℕ, true, false, List, Some, slice_get}
use Rattle.ready_queues.specs.declared.start_view.StartView.{StartView}
use Rattle.ready_queues.specs.declared.end.End.{End}
use Rattle.ready_queues.specs.Ends.{hand_of, wakes_of, sight_of}
use Rattle.ready_queues.specs.QueueRule.{IsNodeOf}

-- no loop has the node: it is the driver's own, or no node of `owner` at all
abbrev pub IsDriversOwn : List ℕ → ℕ → ℕ → Type 0
IsDriversOwn owner loops node = (l : ℕ) → IsNodeOf owner l node → l ≡ loops

-- the node's loop was seen to run
abbrev pub IsSeen : List ℕ → ℕ → List End → ℕ → Type 0
IsSeen owner loops ends node = (l : ℕ) × (l < loops) × IsNodeOf owner l node
    × ((e : End) → slice_get ends l ≡ Some e → (sight_of e).seen ≡ true)

-- no loop that has the node was seen to run: so it is where no loop has it
abbrev pub IsUnseen : List ℕ → ℕ → List End → ℕ → Type 0
IsUnseen owner loops ends node = (l : ℕ) (e : End) → l < loops → IsNodeOf owner l node
    → slice_get ends l ≡ Some e → (sight_of e).seen ≡ false

-- the node's loop was looked at once more, and not found to run
abbrev pub IsMissed : List ℕ → ℕ → List End → List End → ℕ → Type 0
IsMissed owner loops old new node = (l : ℕ) × (l < loops) × IsNodeOf owner l node
    × ((a b : End) → slice_get old l ≡ Some a → slice_get new l ≡ Some b
    → (sight_of a).misses < (sight_of b).misses)

-- the node may be the driver's to run: it is its own, or its loop was not found to run
abbrev pub IsForDriver : List ℕ → ℕ → List End → List End → ℕ → Type 0
IsForDriver owner loops old new node = IsDriversOwn owner loops node
    ⊎ IsMissed owner loops old new node

-- what a way has seen of a start, before and after some looks: what it had seen it still has, and
-- nothing else changed but how often it missed it
pub record IsLater (v w : StartView) : Type 0 where
  pub own : w.own ≡ v.own
  pub runs : w.runs ≡ v.runs
  pub seen : v.seen ≡ true → w.seen ≡ true
  pub misses : v.misses ≤ w.misses

abbrev pub AreLater : List End → List End → Type 0
AreLater old new = (l : ℕ) (a b : End) → slice_get old l ≡ Some a
    → slice_get new l ≡ Some b → IsLater (sight_of a) (sight_of b)

-- an end before and after some looks: nothing was pushed, received or given
pub record IsLookedAt (a b : End) : Type 0 where
  pub hand : hand_of b ≡ hand_of a
  pub wakes : wakes_of b ≡ wakes_of a
  pub sight : IsLater (sight_of a) (sight_of b)

abbrev pub AreLookedAt : List End → List End → Type 0
AreLookedAt old new = (l : ℕ) (a b : End) → slice_get old l ≡ Some a
    → slice_get new l ≡ Some b → IsLookedAt a b
