-- A seat between two calls: a follower that waits for its next cycle, and the driver's seat between
-- cycles or waiting for its node.
-- Source: this project's own.
use Rattle.std.specs.Prelude.{◌≡◌, ◌≢◌, ℕ, ◌<◌, Bool, true, false}
use Rattle.board_rule.specs.declared.view.Phase.TheVariants.{Idle}
use Rattle.board_rule.specs.declared.view.DriverPhase.TheVariants.{Between, Waiting}
use Rattle.board_rule.specs.declared.view.View.{View}
use Rattle.board_rule.specs.Layout.{BoardLayout, nodes}
use Rattle.board_rule.specs.View.{node_of}
use Rattle.board_rule.specs.Steps.{IsMember, HasNode}

-- the follower at the index m is the seat's, and waits
pub record IsResting (p : BoardLayout) (v : View) (m : ℕ) : Type 0 where
  pub member : IsMember false p v m
  pub idle : (node_of v m).phase ≡ Idle

-- each follower of the loop k waits
abbrev pub AllRest : BoardLayout → ℕ → View → Type 0
AllRest p k v = (m : ℕ) → m < nodes p → m ≢ p.driver → p.seat_of m ≡ k
    → IsResting p v m

-- the driver's seat is between two cycles, or has ended them all
pub record IsBetween (p : BoardLayout) (v : View) : Type 0 where
  pub member : IsMember true p v p.driver
  pub between : v.lead.drive ≡ Between
  pub unchecked : v.lead.checked ≡ false

-- it has begun a cycle, and waits for the driver's node
pub record IsWaiting (p : BoardLayout) (v : View) : Type 0 where
  pub node : HasNode true p v p.driver
  pub waits : v.lead.drive ≡ Waiting

-- one or the other
abbrev pub IsDriving : BoardLayout → View → Bool → Type 0
IsDriving p v true = IsWaiting p v
IsDriving p v false = IsBetween p v
