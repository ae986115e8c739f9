-- Whose node it is: what a seat must be for a step on a node, and the view with the node in another
-- phase. Nodes are indexes.
-- Source: this project's own. `is_driver` is true for the driver's seat.
use Rattle.std.specs.Prelude.{◌≡◌, ◌≢◌, ℕ, ◌<◌, ◌≤◌, Bool, true, false, length}
use mathlib.Core.Option.{some}
use lib.ListN.{get_elem?}
use Rattle.board_rule.specs.declared.view.Phase.{Phase}
use Rattle.board_rule.specs.declared.view.DriverPhase.{DriverPhase}
use Rattle.board_rule.specs.declared.view.Trail.{Trail}
use Rattle.board_rule.specs.declared.view.View.{View}
use Rattle.board_rule.specs.Layout.{BoardLayout, nodes, first, last}
use Rattle.board_rule.specs.start.Owners.{owners_of}
use Rattle.board_rule.specs.View.{node_of, view_node, view_lead}

-- the seat's own node m: for a loop's a follower that it has, for the driver's the driver's node
pub record Has (p : BoardLayout) (v : View) (m : ℕ) : Type 0 where
  pub inside : m < nodes p
  pub follows : m ≢ p.driver
  pub loops : v.number < p.seats
  pub owned : p.seat_of m ≡ v.number
  pub there : m < length v.nodes
  pub knows : get_elem? v.nodes m ≡ some (node_of v m)
  pub owners : v.owners ≡ owners_of p

abbrev pub Owns : Bool → BoardLayout → View → ℕ → Type 0
Owns true p v m = (m ≡ p.driver) × (v.number ≡ p.seats) × (v.owners ≡ owners_of p)
Owns false p v m = Has p v m

-- the cycle that the seat is in with it
abbrev pub cycle_of : Bool → View → ℕ → ℕ
cycle_of true v m = v.lead.cycle
cycle_of false v m = (node_of v m).next

-- a cycle of the epoch
abbrev pub IsCycle : BoardLayout → ℕ → Type 0
IsCycle p c = (first p ≤ c) × (c < last p)

-- and it has cycles left
abbrev pub HasNode : Bool → BoardLayout → View → ℕ → Type 0
HasNode is_driver p v m = Owns is_driver p v m × IsCycle p (cycle_of is_driver v m)
    × (m < nodes p)

-- or has ended them all
abbrev pub IsMember : Bool → BoardLayout → View → ℕ → Type 0
IsMember is_driver p v m = Owns is_driver p v m
    × ((first p ≤ cycle_of is_driver v m) × (cycle_of is_driver v m ≤ last p))
    × (m < nodes p)

-- the view with a follower, or the driver's seat, in another phase
abbrev pub phased : View → ℕ → Phase → Trail → View
phased v m f t = view_node v m (record (node_of v m) { phase = f }) t

abbrev pub driven : View → DriverPhase → Trail → View
driven v d t = view_lead v (record v.lead { drive = d }) t
