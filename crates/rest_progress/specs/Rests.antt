-- When a thread may rest, and when it may leave the board.
-- Source: PipeWire's documentation, "Data loops"; the rule is this project's own.
use Rattle.std.specs.Prelude.{◌≡◌, ◌≢◌, ◌⊎◌, ℕ, ◌<◌, false, Option, Some, None}
use mathlib.Core.Option.{some}
use lib.ListN.{get_elem?}
use Rattle.board_rule.specs.declared.view.Phase.TheVariants.{Idle}
use Rattle.board_rule.specs.declared.view.DriverPhase.TheVariants as drives
use Rattle.board_rule.specs.declared.view.View.{View}
use Rattle.board_rule.specs.Layout.{BoardLayout, nodes, last}
use Rattle.board_rule.specs.View.{node_of}
use Rattle.rest_progress.specs.Sleepers.{Crew, RunState, MayStep, HasTried, seat_at}
use Rattle.rest_progress.specs.NodeEnds.{HasCyclesLeft, HasEnded}

-- a follower, as the view of its seat has it: idle, and tried or at its end
pub record FollowerRests (p : BoardLayout) (s : RunState) (a n : ℕ) : Type 0 where
  pub id : ℕ
  pub view : View
  pub at : get_elem? s.board.views id ≡ some view
  pub number : view.number ≡ p.seat_of n
  pub idle : (node_of view n).phase ≡ Idle
  pub done : HasTried s a n ⊎ ((node_of view n).next ≡ last p)

-- the driver's seat: its node waits, and was tried
pub record DriverRests (p : BoardLayout) (s : RunState) (a : ℕ) : Type 0 where
  pub id : ℕ
  pub view : View
  pub at : get_elem? s.board.views id ≡ some view
  pub number : view.number ≡ p.seats
  pub waits : view.lead.drive ≡ drives.Waiting
  pub tried : HasTried s a p.driver

-- a node at home with the thread a has cycles left
abbrev pub HasSomeLeft : BoardLayout → (ℕ → Option ℕ) → RunState → ℕ → Type 0
HasSomeLeft p home s a = (n : ℕ) × (n < nodes p) × (home (seat_at p n) ≡ Some a)
    × HasCyclesLeft p s.board.views n

-- AT REST: each follower at home with the thread a is, and the driver's seat, if that is at home with
-- it; and a node at home with it has cycles left. So it is from when it lies down until it is up
pub record IsAtRest (p : BoardLayout) (home : ℕ → Option ℕ) (s : RunState) (a : ℕ) : Type 0 where
  pub followers : (n : ℕ) → n < nodes p → n ≢ p.driver → home (p.seat_of n) ≡ Some a
      → FollowerRests p s a n
  pub driver : home p.seats ≡ Some a → DriverRests p s a
  pub some_left : HasSomeLeft p home s a

-- COMPANY: while a node whose seat has no home has cycles left, a thread with no node at home is not
-- gone. Such a thread never lies down: no node at home with it has cycles left
abbrev pub HasCompany : BoardLayout → Crew → RunState → Type 0
HasCompany p crew s = (n : ℕ) → n < nodes p → crew.home (seat_at p n) ≡ None
    → HasCyclesLeft p s.board.views n
    → (b : ℕ) × (b < crew.threads) × ((s.sleepers b).gone ≡ false)
    × ((m : ℕ) → m < nodes p → crew.home (seat_at p m) ≢ Some b)

-- MAY REST: it owes nobody, is at rest, and leaves company
pub record MayRest (p : BoardLayout) (crew : Crew) (s : RunState) (a : ℕ) : Type 0 where
  pub clear : (b : ℕ) → (s.sleepers a).owes b ≡ false
  pub rests : IsAtRest p crew.home s a
  pub company : HasCompany p crew s

-- MAY LEAVE: it owes nobody, and each node that it may step has ended
pub record MayLeave (p : BoardLayout) (crew : Crew) (s : RunState) (a : ℕ) : Type 0 where
  pub clear : (b : ℕ) → (s.sleepers a).owes b ≡ false
  pub ended : (n : ℕ) → n < nodes p → MayStep crew.home a (seat_at p n)
      → HasEnded p s.board.views n
