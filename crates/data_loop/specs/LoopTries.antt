-- A try of one node by a loop, and the nodes that a turn or a try has woken.
-- Source: PipeWire's documentation, "Graph Scheduling" (a node that is done decrements the pending
-- count of its targets, and a target whose count is then 0 is triggered).
use Rattle.std.specs.Prelude.{◌≡◌, ◌≢◌, ℕ, ◌+◌, ◌<◌, ◌==◌, List, [], Contains, filter, length}
use Rattle.board_rule.specs.events.Bits.{woke_of}
use Rattle.board_rule.specs.Layout.{BoardLayout}
use Rattle.data_loop.specs.declared.did.Did.{Did}
use Rattle.data_loop.specs.declared.did.Did.TheVariants.{Ran, Idle}
use Rattle.data_loop.specs.declared.loop_state.LoopState.{LoopState}
use Rattle.data_loop.specs.declared.member.Member.{Member}
use Rattle.data_loop.specs.declared.epoch_state.EpochState.{EpochState}
use Rattle.data_loop.specs.Tries.{member_at}
use Rattle.data_loop.specs.LoopTurn.{next_in, HaveTried}
use Rattle.data_loop.specs.Loops.{HasEpochState}

-- of the members those that are the node: one, or none where it does not follow in the epoch
abbrev pub members_at : ℕ → List Member → List Member
members_at n members = filter (λ m. m.node == n) members

-- the node is a cycle later; every other one is as before
pub record HasRunAt (p : BoardLayout) (g : EpochState) (n : ℕ) (h : EpochState) : Type 0 where
  pub index : ℕ
  pub inside : index < length g.members
  pub node : (member_at g index).node ≡ n
  pub later : next_in p h.seat.knows n ≡ next_in p g.seat.knows n + 1
  pub others : (x : Member) → Contains g.members x → x.node ≢ n
      → next_in p h.seat.knows x.node ≡ next_in p g.seat.knows x.node

-- THE ANSWER of a try of the node n: it ran, or nothing of it was done but for one try, where it
-- follows and has cycles left, which found another word than TRIGGERED of its next cycle
abbrev pub IsDidAt : BoardLayout → EpochState → ℕ → Did → List (ℕ × ℕ) → EpochState
    → Type 0
IsDidAt p g n (Ran node) found h = (node ≡ n) × (found ≡ []) × HasRunAt p g n h
IsDidAt p g n Idle found h =
    HaveTried p g.seat.knows (members_at n g.members) found h.seat.knows

-- so it is of a loop
abbrev pub HasTurnedAt : BoardLayout → ℕ → LoopState → Did → LoopState → Type 0
HasTurnedAt p n s did t = (g h : EpochState) → HasEpochState s s.epoch g → HasEpochState t t.epoch h
    → IsDidAt p g n did t.found.items h

-- THE WOKEN: the targets whose pending word the turn's finish took to 0; none after Idle
abbrev pub IsWoke : Did → EpochState → ℕ → Type 0
IsWoke (Ran node) h woke = woke ≡ woke_of h.seat.knows.trail.told
IsWoke Idle h woke = woke ≡ 0

abbrev pub HasWoken : Did → LoopState → Type 0
HasWoken did t = (h : EpochState) → HasEpochState t t.epoch h → IsWoke did h t.woke
