-- What is said of a run's rests: no wake is lost, and somebody can go on.
-- Source: this project's own.
use Rattle.std.specs.Prelude.{◌≡◌, ◌≢◌, ◌⊎◌, ℕ, ◌<◌, Some}
use mathlib.Core.Option.{some}
use lib.ListN.{get_elem?}
use Rattle.board_rule.specs.declared.view.View.{View}
use Rattle.board_rule.specs.Layout.{BoardLayout, nodes}
use Rattle.board_progress.specs.Moves.{Move}
use Rattle.board_progress.specs.Progress.{Advances, HasWork}
use Rattle.rest_progress.specs.Sleepers.{Crew, RunState, MayStep, IsUp, Sleeps, HasToken, Owes, seat_at, IsTriggered}

-- A WAKE IS THERE for the thread a: its token, or another thread that has still to unpark it
abbrev pub IsCalled : RunState → ℕ → Type 0
IsCalled s a = HasToken s a ⊎ ((b : ℕ) × (b ≢ a) × Owes s b a)

-- HEARD: a node that is TRIGGERED and whose home is asleep; the other thread is up
abbrev pub IsHeard : BoardLayout → Crew → RunState → Type 0
IsHeard p crew s = (n a : ℕ) → n < nodes p → crew.home (seat_at p n) ≡ Some a → Sleeps s a
    → IsTriggered p s.board.words n → HasToken s a ⊎ ((b : ℕ) × IsUp crew s b × Owes s b a)

-- SOMEBODY CAN GO ON: a thread that is up can take an advance with a seat that it may step and that
-- has work; or it has still to unpark another; or a thread that is asleep has its token
pub data CanGoOn (p : BoardLayout) (crew : Crew) (s : RunState) : Type 0 where
  advances : (a i : ℕ) (v : View) (x : Move) → IsUp crew s a → MayStep crew.home a v.number
      → get_elem? s.board.views i ≡ some v → Advances p s.board.words v x
      → HasWork p s.board.words v → CanGoOn p crew s
  pays : (a b : ℕ) → IsUp crew s a → Owes s a b → CanGoOn p crew s
  wakes : (a : ℕ) → Sleeps s a → HasToken s a → CanGoOn p crew s
