-- Forwarding: sending by a thread that does not unpark itself, and the driver's thread only where a
-- node of the set may be its own to run: no loop has it, or its loop was not seen to run.
-- Source: this project's own.
use Rattle.std.specs.Prelude.{◌≡◌, ◌≢◌, ◌≤◌, ℕ, List, length}
use Rattle.std.specs.Int.{bit_at}
use Rattle.crossbeam_utils.specs.Token.{parker_view}
use Rattle.ready_queues.specs.declared.end.End.{End}
use Rattle.ready_queues.specs.declared.way.Way.{Way}
use Rattle.ready_queues.specs.ParkingRule.{given_on}
use Rattle.ready_queues.specs.Sending.{HaveSent, IsRefused}
use Rattle.ready_queues.specs.Watching.{IsUnseen, IsForDriver, AreLater}

-- the set has a node whose loop was not seen to run, or that no loop has
abbrev pub HasUnseen : List ℕ → ℕ → ℕ → List End → Type 0
HasUnseen owner loops woke ends = (node : ℕ) × (bit_at woke node ≡ 1)
    × IsUnseen owner loops ends node

-- the set has a node that may be the driver's to run
abbrev pub HasForDriver : List ℕ → ℕ → ℕ → List End → List End → Type 0
HasForDriver owner loops woke old new = (node : ℕ) × (bit_at woke node ≡ 1)
    × IsForDriver owner loops old new node

-- how often the thread of a number unparks the driver's for a set, where its ends were `old` and
-- are `new`: at most once, never itself and never for nothing; always another for a node whose loop
-- was not seen to run, or that no loop has; and only for one that may be the driver's to run
pub record IsUnparkedFor (owner : List ℕ) (loops woke number : ℕ) (old new : List End)
    (times : ℕ) : Type 0 where
  pub most : times ≤ 1
  pub itself : number ≡ loops → times ≡ 0
  pub nothing : woke ≡ 0 → times ≡ 0
  pub needed : number ≢ loops → HasUnseen owner loops woke new → times ≡ 1
  pub sparing : times ≡ 1 → HasForDriver owner loops woke old new

-- the driver's thread was unparked so
abbrev pub HasUnparked : List ℕ → ℕ → ℕ → Way → Way → Type 0
HasUnparked owner loops woke a b = (times : ℕ)
    × IsUnparkedFor owner loops woke a.number a.ends.items b.ends.items times
    × (parker_view b.driver ≡ given_on (parker_view a.driver) times)

-- the nodes of the set were sent, and the way's own loop was spared; `full` has the bits of those
-- that came back and were not pushed
pub record HasForwarded (owner : List ℕ) (loops woke full : ℕ) (a b : Way) : Type 0 where
  pub number : b.number ≡ a.number
  pub own : parker_view b.own ≡ parker_view a.own
  pub ends : HaveSent owner a.number woke full (length owner) a.ends.items b.ends.items
  pub driver : HasUnparked owner loops woke a b
  pub begins : b.begins ≡ a.begins
  pub sights : AreLater a.ends.items b.ends.items
  pub refused : (node : ℕ) → bit_at full node ≡ 1 → IsRefused owner loops woke node
