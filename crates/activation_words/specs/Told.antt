-- A node that lowers its targets, one after the other.
-- Source: PipeWire's documentation, "Graph Scheduling" (a node that is done decrements the pending
-- count of its targets).
use Rattle.std.specs.Prelude.{◌≡◌, ◌↔◌, ℕ, Bool, false, map, take, length, reverse, Contains, IsBitSet}
use Rattle.board_rule.specs.declared.view.View.{View}
use Rattle.board_rule.specs.events.Bits.{woke_of}
use Rattle.board_rule.specs.Layout.{BoardLayout}
use Rattle.board_rule.specs.Steps.{settles}

-- from the view v to the view w, the first i targets of m are lowered, and no trigger is owed. The
-- seat remembers the word of each, newest first
pub record IsTelling (is_driver : Bool) (p : BoardLayout) (v : View) (m i : ℕ)
    (w : View) : Type 0 where
  pub told : map (λ f. f.node) w.trail.told ≡ reverse (map p.number (take i (p.targets m)))
  pub is : w ≡ settles is_driver p v m i false (record v.trail { told = w.trail.told })

-- all of them
abbrev pub HasTold : Bool → BoardLayout → View → ℕ → View → Type 0
HasTold is_driver p v m w = IsTelling is_driver p v m (length (p.targets m)) w

-- THE WOKEN: bit n of the seat's set is set exactly where the call lowered the node n and found its
-- pending word at 1, so that it became 0
abbrev pub HasWoken : View → Type 0
HasWoken w = (n : ℕ) → IsBitSet (woke_of w.trail.told) n
    ↔ Contains w.trail.told (record { node = n; word = 1 })
