-- Laws of `specs/Causes.antt`: the sets that are kept of a cycle say what is wrong with an event.
use Rattle.std.proofs.Common.{◌≡◌, ℕ, ◌<◌, List, sym, subst, arith}
use Rattle.std.specs.Prelude.{Contains, IsBitSet, slice_index}
use Rattle.pw_graph.specs.declared.event.Event.{Event}
use Rattle.pw_graph.specs.declared.event.Event.TheVariants.{Start, Finish}
use Rattle.pw_graph.specs.declared.shape.Shape.{Shape}
use Rattle.pw_graph.specs.Dependencies.{nodes_of, Precedes}
use Rattle.trace_check.specs.declared.order.Order.{Order}
use Rattle.trace_check.specs.declared.so_far.SoFar.{SoFar}
use Rattle.trace_check.specs.Causes.{IsLeast, IsLeft, IsAwaited, IsCalledLate}
use Rattle.trace_check.specs.working.NodeSets.{IsDifference, IsFirstOutside}
use Rattle.pw_graph.specs.SoundShape.{IsSoundShape}
use Rattle.trace_check.specs.working.NextEvent.{AreAllowed}
use Rattle.trace_check.specs.working.Admitting.{IsOrderOf, StandsFor, IsKept}
use Rattle.trace_check.proofs.AdmittingLemmas.{small_node, precedes_driver}
use Rattle.trace_check.proofs.NextEventLemmas.{started_active}

pub kept : (shape : Shape) (cycle : ℕ) (since : List Event) (order : Order) (so_far : SoFar) → IsSoundShape shape → IsOrderOf shape order
    → AreAllowed shape cycle since → StandsFor cycle since so_far → IsKept shape cycle since order so_far
kept shape cycle since order so_far sound ordered allowed stands = record { sound = sound; ordered = ordered; allowed = allowed; stands = stands }

module _ (shape : Shape) (cycle : ℕ) (since : List Event) (order : Order) (so_far : SoFar) (k : IsKept shape cycle since order so_far) where
  -- a node that is not active, one that has started or finished, and one that has not started
  pub not_active : (n : ℕ) → ¬ ((n < 64) × IsBitSet order.active n) → ¬ Contains (nodes_of shape) n
  not_active n none c = let small : n < 64 = small_node shape k.sound n c in none (small, (k.ordered.active n small).1 c)

  pub has_started : (n : ℕ) → n < 64 → IsBitSet so_far.started n → Contains since (Start cycle n)
  has_started n small b = (k.stands.started n small).0 b

  pub has_finished : (n : ℕ) → n < 64 → IsBitSet so_far.finished n → Contains since (Finish cycle n)
  has_finished n small b = (k.stands.finished n small).0 b

  pub not_started : (n : ℕ) → ¬ ((n < 64) × IsBitSet so_far.started n) → ¬ Contains since (Start cycle n)
  not_started n none c =
      let small : n < 64 = small_node shape k.sound n (started_active shape cycle since n k.allowed c) in none (small, (k.stands.started n small).1 c)

  -- the first node that one waits for, and the first that is left
  pub awaited : (n m : ℕ) → n < 64 → IsFirstOutside (slice_index order.before n) so_far.finished m → IsLeast (IsAwaited shape cycle since n) m
  awaited n m lt f = record {
    here = ((k.ordered.before n lt m f.small).0 f.inside, λ c. f.outside ((k.stands.finished m f.small).1 c));
    least = λ j less h. let small : j < 64 = omega (arith, f.small) in
        h.1 ((k.stands.finished j small).0 (f.first j less ((k.ordered.before n lt j small).1 h.0)));
  }

  pub left : (m : ℕ) → IsFirstOutside order.active so_far.finished m → IsLeast (IsLeft shape cycle since) m
  left m f = record {
    here = ((k.ordered.active m f.small).0 f.inside, λ c. f.outside ((k.stands.finished m f.small).1 c));
    least = λ j less h. let small : j < 64 = omega (arith, f.small) in
        h.1 ((k.stands.finished j small).0 (f.first j less ((k.ordered.active j small).1 h.0)));
  }

  -- the first that a Tick calls late and that is none
  pub called_late : (driver late set m : ℕ) → driver < 64 → driver ≡ shape.driver → IsDifference (slice_index order.before driver) so_far.finished set
      → IsFirstOutside late set m → IsLeast (IsCalledLate shape cycle since late) m
  called_late driver late set m lt is d f = record {
    here = (
      f.small,
      f.inside,
      λ h. f.outside ((d m f.small).1 (
        (k.ordered.before driver lt m f.small).1 (subst (Precedes shape m) (sym is) (precedes_driver shape k.sound m h.1.0 h.0)),
        λ b. h.1.1 ((k.stands.finished m f.small).0 b),
      )),
    );
    least = λ j less h.
        let b = (d j h.0).0 (f.first j less h.1) in
        let p : Precedes shape j shape.driver = subst (Precedes shape j) is ((k.ordered.before driver lt j h.0).0 b.0) in
        h.2 (p.follower, (p.depends.from_active, λ c. b.1 ((k.stands.finished j h.0).1 c)));
  }
