-- The rule of a board: one whole that every seat's view agrees with, whose words obey the
-- activation rule, the event rule and the buffer rule.
-- Source: this project's own.
use Rattle.std.specs.Prelude.{◌≡◌, ◌≢◌, ℕ, ◌+◌, ◌<◌, ◌≤◌, List, length}
use mathlib.Core.Option.{some}
use lib.ListN.{get_elem?}
use Rattle.atomic_table.specs.Table.{State}
use Rattle.board_rule.specs.declared.view.View.{View}
use Rattle.board_rule.specs.Layout.{BoardLayout, IsSound, nodes, first, word_count}
use Rattle.pw_graph.specs.Layout.{event_place, event_count}
use Rattle.pw_graph.specs.Pools.{IsPooledShape}
use Rattle.board_rule.specs.View.{Whole, idle}
use Rattle.board_rule.specs.start.Owners.{owners_of}
use Rattle.board_rule.specs.activation.ActivationRule.{Activations}
use Rattle.board_rule.specs.events.EventRule.{Events}
use Rattle.board_rule.specs.events.Bits.{AreOfNodes}
use Rattle.board_rule.specs.buffers.SampleWords.{IsTable}
use Rattle.board_rule.specs.buffers.BufferRule.{Buffers}
use Rattle.board_rule.specs.buffers.Spans.{spans}
use Rattle.board_rule.specs.buffers.KnownEnds.{KnowsEnds, AreRead, AreStill}

module _ (p : BoardLayout) where
  -- what the view at the index j among all views says of the whole: no two views of seats have the
  -- same number. A view with a greater number is kept of a board that is closed, and then no seat
  -- is split off any more. `owners`, `reads`, `looks`: whose each node, link and block is; of no
  -- block more is read than it has; a check looks at nodes
  pub record Knows (g : Whole) (j : ℕ) (v : View) : Type 0 where
    pub kept : p.seats < v.number → p.seats < g.split
    pub here : v.number ≤ p.seats → g.seat_at v.number ≡ j
    pub is_driver : v.number ≡ p.seats
        → (v.lead ≡ g.lead) × (v.split ≡ g.split) × (v.trail.looks ≡ g.looks)
    pub expects : v.expect ≡ g.expect
    pub is_split : v.number < p.seats → v.number < g.split
    pub owns : (n : ℕ) → n < nodes p → n ≢ p.driver → p.seat_of n ≡ v.number
        → get_elem? v.nodes n ≡ some (g.nodes n)
    pub ends : KnowsEnds p g.ends v.number v.writes v.reads v.blocks v.reclaimed
    pub owners : v.number ≤ p.seats → v.owners ≡ owners_of p
    pub reads : v.number ≤ p.seats → AreRead p v.words_read
    pub looks : v.number ≡ p.seats → AreOfNodes v.trail.looks

  -- the seats and their views; a follower whose seat is not yet split off is idle in the first
  -- cycle. `table`: the first split names the samples
  pub record Seated (g : Whole) (words : List ℕ) (views : List View) : Type 0 where
    pub sound : IsSound p
    pub pooled : IsPooledShape p.shape
    pub room : word_count p.shape ≡ length words
    pub wide : nodes p + nodes p < length words
    pub long : event_place p.shape (event_count p.shape) ≤ length words
    pub knows : (j : ℕ) (v : View) → get_elem? views j ≡ some v → Knows g j v
    pub most : g.split ≤ p.seats + 1
    pub present : g.split ≤ p.seats → (i : ℕ) → i ≤ p.seats
        → (i < p.seats → i < g.split)
        → (v : View) × (get_elem? views (g.seat_at i) ≡ some v) × (v.number ≡ i)
    pub unsplit : (n : ℕ) → n < nodes p → n ≢ p.driver → g.split ≤ p.seat_of n
        → g.nodes n ≡ idle (first p)
    pub still : AreStill p g.ends g.split
    pub table : (n : ℕ) → n < nodes p → n ≢ p.driver → p.seat_of n < g.split
        → IsTable p g.expect

  -- THE RULE
  pub record Holds {S : Type 0} (s : State S View) : Type 0 where
    pub whole : Whole
    pub seated : Seated whole s.words s.views
    pub activations : Activations p whole s.words
    pub events : Events p whole s.words
    pub buffers : Buffers p (spans p whole) whole.ends whole.expect s.words
