-- What the checker keeps of an epoch and of the cycle that it is in, and how it finds which event
-- may come next.
-- Source: this project's.
use Rattle.std.specs.Prelude.{◌≡◌, ℕ, ◌<◌, ◌↔◌, true, false, List, length, slice_index, Contains, IsTrue, IsBitSet}
use Rattle.pw_graph.specs.declared.event.Event.{Event}
use Rattle.pw_graph.specs.declared.event.Event.TheVariants.{Start, Finish, Tick}
use Rattle.pw_graph.specs.declared.shape.Shape.{Shape}
use Rattle.pw_graph.specs.Dependencies.{nodes_of, Precedes}
use Rattle.trace_check.specs.declared.order.Order.{Order}
use Rattle.trace_check.specs.declared.so_far.SoFar.{SoFar}
use Rattle.pw_graph.specs.SoundShape.{IsSoundShape}
use Rattle.trace_check.specs.working.NextEvent.{AreAllowed}
use Rattle.trace_check.specs.working.NodeSets.{IsWithin, AreApart, Gains}

-- the set has just the nodes of which something holds
abbrev pub IsSetOf : ℕ → (ℕ → Type 0) → Type 0
IsSetOf set holds = (n : ℕ) → n < 64 → IsBitSet set n ↔ holds n

-- the order of a shape's nodes: which there are, and which precede each
pub record IsOrderOf (shape : Shape) (order : Order) : Type 0 where
  pub active : IsSetOf order.active (λ n. Contains (nodes_of shape) n)
  pub numbers : length order.before ≡ 64
  pub before : (n : ℕ) → n < 64
      → IsSetOf (slice_index order.before n) (λ m. Precedes shape m n)

-- what has happened in a cycle
pub record StandsFor (cycle : ℕ) (front : List Event) (so_far : SoFar) : Type 0 where
  pub started : IsSetOf so_far.started (λ n. Contains front (Start cycle n))
  pub finished : IsSetOf so_far.finished (λ n. Contains front (Finish cycle n))
  pub ticked : IsTrue so_far.ticked ↔ ((c : ℕ) × (late : ℕ) × Contains front (Tick c late))

-- what is kept of a cycle after events that its rules allow
pub record IsKept (shape : Shape) (cycle : ℕ) (front : List Event) (order : Order) (so_far : SoFar)
    : Type 0 where
  pub sound : IsSoundShape shape
  pub ordered : IsOrderOf shape order
  pub allowed : AreAllowed shape cycle front
  pub stands : StandsFor cycle front so_far

-- by the sets: an event that may come next
abbrev pub Admits : Order → ℕ → ℕ → SoFar → Event → Type 0
Admits order driver cycle so_far (Start c n) = (c ≡ cycle) × (n < 64) × IsBitSet order.active n
    × ¬ IsBitSet so_far.started n × IsWithin (slice_index order.before n) so_far.finished
Admits order driver cycle so_far (Finish c n) = (c ≡ cycle) × (n < 64)
    × IsBitSet so_far.started n × ¬ IsBitSet so_far.finished n
Admits order driver cycle so_far (Tick c late) = (c ≡ cycle) × (so_far.ticked ≡ false)
    × ¬ IsBitSet so_far.started driver
    × IsWithin late (slice_index order.before driver) × AreApart late so_far.finished
Admits order driver cycle so_far _ = ⊥

-- the node of a Start or Finish has a number below 64
abbrev pub HasSmallNode : Event → Type 0
HasSmallNode (Start c n) = n < 64
HasSmallNode (Finish c n) = n < 64
HasSmallNode _ = Unit {0}

-- what is kept after one event more
abbrev pub Becomes : SoFar → Event → SoFar → Type 0
Becomes old (Start c n) new = Gains old.started n new.started × (new.finished ≡ old.finished)
    × (new.ticked ≡ old.ticked)
Becomes old (Finish c n) new = (new.started ≡ old.started) × Gains old.finished n new.finished
    × (new.ticked ≡ old.ticked)
Becomes old (Tick c late) new = (new.started ≡ old.started) × (new.finished ≡ old.finished)
    × (new.ticked ≡ true)
Becomes old _ new = Unit {0}
