-- How many advances a seat has left at most of its nodes, by its view.
-- Source: PipeWire's documentation, "Graph Scheduling"; the counts are this project's.
use Rattle.std.specs.Prelude.{ℕ, cond, eqb, List, length}
use Rattle.board_rule.specs.declared.view.NodeView.{NodeView}
use Rattle.board_rule.specs.declared.view.DriverView.{DriverView}
use Rattle.board_rule.specs.declared.view.Found.{Found}
use Rattle.board_rule.specs.declared.view.View.{View}
use Rattle.board_rule.specs.Sums.{total, times}
use Rattle.board_rule.specs.Layout.{BoardLayout, nodes, last}
use Rattle.board_rule.specs.View.{node_of}
use Rattle.board_rule.specs.start.Owners.{holder}
use Rattle.board_rule.specs.events.CheckSteps.{looked_at}
use Rattle.board_progress.specs.PhasesLeft.{cycles_left, turns_left}

module _ (p : BoardLayout) where
  -- the nodes that a check has not yet looked at
  abbrev pub unseen : List Found → ℕ
  unseen looks = total (λ n. cond (eqb (times (p.number n) (looked_at looks)) 0) 1 0) (nodes p)

  abbrev pub follower_left : ℕ → NodeView → ℕ
  follower_left n x = cycles_left (last p) (length (p.targets n)) x.next x.phase

  abbrev pub lead_left : DriverView → List Found → ℕ
  lead_left x looks = turns_left (last p) (nodes p) (length (p.targets p.driver)) (unseen looks)
      x.checked x.cycle x.drive

  -- what a seat has left of its nodes: a loop's of its followers, the driver's of the cycles
  abbrev pub nodes_left : View → ℕ
  nodes_left v = total (λ n. cond (eqb (holder p n) v.number) (follower_left n (node_of v n)) 0)
      (nodes p)

  abbrev pub turn_left : View → ℕ
  turn_left v = cond (eqb v.number p.seats) (lead_left v.lead v.trail.looks) 0
