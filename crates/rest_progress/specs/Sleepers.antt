-- What a run on a board has besides the board: of each thread whether its token is there, whom it
-- has still to unpark, and what it tried.
-- Source: `crossbeam_utils`, `Parker`: a token that `unpark` leaves and `park` takes; the rest is
-- this project's own.
use Rattle.std.specs.Prelude.{◌≡◌, ◌⊎◌, ℕ, ◌<◌, Bool, true, false, cond, eqb, List, Option, Some, None, slice_index}
use Rattle.atomic_table.specs.Table.{State}
use Rattle.pw_graph.specs.Layout.{status_place}
use Rattle.pw_graph.specs.Words.{triggered_word}
use Rattle.board_rule.specs.declared.view.View.{View}
use Rattle.board_rule.specs.Layout.{BoardLayout}

-- A CREW: how many threads there are, and of each seat, by its number, its home: the thread that is
-- unparked when one of its nodes is triggered. So it is the thread of a loop, and of the driver's
-- seat and of an adopted loop the driver's thread. A seat with no home, as that of a cell, may be
-- stepped by any thread
pub record Crew : Type 0 where
  pub threads : ℕ
  pub home : ℕ → Option ℕ
  pub within : (seat a : ℕ) → home seat ≡ Some a → a < threads

-- the thread a may step a seat: it is at home with it, or has no home
abbrev pub MayStep : (ℕ → Option ℕ) → ℕ → ℕ → Type 0
MayStep home a seat = (home seat ≡ Some a) ⊎ (home seat ≡ None)

-- A THREAD: whom it has still to unpark for what it triggered; the nodes that it claimed too early
-- since it last took its token and last triggered a node; whether it sleeps; whether it has left the
-- board, for good
pub record Sleeper : Type 0 where
  pub owes : ℕ → Bool
  pub tried : ℕ → Bool
  pub asleep : Bool
  pub gone : Bool

-- A STATE of a run on the board of one epoch: tokens and sleepers are by thread
pub record RunState : Type 0 where
  pub board : State (Option ℕ) View
  pub tokens : ℕ → Bool
  pub sleepers : ℕ → Sleeper

-- UP: neither asleep nor gone
abbrev pub IsAwake : Sleeper → Type 0
IsAwake x = (x.asleep ≡ false) × (x.gone ≡ false)

abbrev pub IsUp : Crew → RunState → ℕ → Type 0
IsUp crew s a = (a < crew.threads) × IsAwake (s.sleepers a)

abbrev pub Sleeps : RunState → ℕ → Type 0
Sleeps s a = (s.sleepers a).asleep ≡ true

abbrev pub IsGone : RunState → ℕ → Type 0
IsGone s a = (s.sleepers a).gone ≡ true

abbrev pub HasToken : RunState → ℕ → Type 0
HasToken s a = s.tokens a ≡ true

-- the thread b has still to unpark the thread a
abbrev pub Owes : RunState → ℕ → ℕ → Type 0
Owes s b a = (s.sleepers b).owes a ≡ true

abbrev pub HasTried : RunState → ℕ → ℕ → Type 0
HasTried s a n = (s.sleepers a).tried n ≡ true

-- the seat of a node: the driver's seat for the driver's node
abbrev pub seat_at : BoardLayout → ℕ → ℕ
seat_at p n = cond (eqb n p.driver) p.seats (p.seat_of n)

-- TRIGGERED, in any cycle
abbrev pub IsTriggered : BoardLayout → List ℕ → ℕ → Type 0
IsTriggered p words n = (c : ℕ) × (slice_index words (status_place p.shape n) ≡ triggered_word c)
