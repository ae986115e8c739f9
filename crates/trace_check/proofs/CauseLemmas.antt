-- Laws of `specs/Reasons.antt`: causes in a first cycle, and between cycles that have ended and later ones.
use Rattle.std.proofs.Common.{◌≡◌, ℕ, suc, ◌+◌, inl, inr, Option, Some, List, [], ◌∷◌, ◌++◌, take, refl, sym, ap, ◌∙◌, subst, arith, append_assoc}
use Rattle.std.specs.Prelude.{slice_get}
use Rattle.pw_graph.specs.declared.event.Event.{Event}
use Rattle.pw_graph.specs.declared.event.Event.TheVariants.{Begin}
use Rattle.pw_graph.specs.declared.shape.Shape.{Shape}
use Rattle.pw_graph.specs.History.{AreJoined}
use Rattle.trace_check.specs.declared.causes.Cause.{Cause}
use Rattle.trace_check.specs.declared.causes.Cause.TheVariants as C
use Rattle.trace_check.specs.Causes.{IsCauseInside}
use Rattle.trace_check.specs.Reasons.{IsNext, IsCauseIn}
use Rattle.trace_check.proofs.ProgressLemmas.{joined_more, joined_none}

-- the first cycle is the next after no event
first_next : (shape : Shape) (cycle : ℕ) → IsNext ((shape, cycle) ∷ []) [] shape cycle
first_next shape cycle = record { ended = []; later = []; row = refl; joined = joined_none }

-- no Begin of it comes
pub cause_before : (shape : Shape) (cycle : ℕ) (events : List Event) → ¬ (slice_get events 0 ≡ Some (Begin cycle))
    → IsCauseIn ((shape, cycle) ∷ []) (take 0 events) (slice_get events 0) (C.NotBegun cycle)
cause_before shape cycle events other = inl (record {
  shape = shape;
  cycle = cycle;
  is_next = first_next shape cycle;
  other = other;
  is = refl;
})

-- it has begun
pub cause_since : (shape : Shape) (cycle : ℕ) (rest : List Event) (n : ℕ) (cause : Cause) → IsCauseInside shape cycle (take n rest) (slice_get rest n) cause
    → IsCauseIn ((shape, cycle) ∷ []) (take (n + 1) (Begin cycle ∷ rest)) (slice_get (Begin cycle ∷ rest) (n + 1)) cause
cause_since shape cycle rest n cause why =
    let e : suc n ≡ n + 1 = omega arith in
    subst (λ k. IsCauseIn ((shape, cycle) ∷ []) (take k (Begin cycle ∷ rest)) (slice_get (Begin cycle ∷ rest) k) cause) e (inr (record {
      shape = shape;
      cycle = cycle;
      whole = [];
      since = take n rest;
      is_next = first_next shape cycle;
      begun = refl;
      inside = why;
    }))

next_on : (front more later : List (Shape × ℕ)) (p r : List Event) (shape : Shape) (cycle : ℕ) → AreJoined front p → IsNext more r shape cycle
    → IsNext (front ++ (more ++ later)) (p ++ r) shape cycle
next_on front more later p r shape cycle h n = record {
  ended = front ++ n.ended;
  later = n.later ++ later;
  row = ap (λ cs. front ++ (cs ++ later)) n.row ∙ ap (λ cs. front ++ cs) (append_assoc n.ended ((shape, cycle) ∷ n.later) later)
      ∙ sym (append_assoc front n.ended ((shape, cycle) ∷ (n.later ++ later)));
  joined = joined_more front n.ended p r h n.joined;
}

-- after whole cycles, and before others
pub cause_on : (front more later : List (Shape × ℕ)) (p r : List Event) (next : Option Event) (cause : Cause) → AreJoined front p
    → IsCauseIn more r next cause → IsCauseIn (front ++ (more ++ later)) (p ++ r) next cause
cause_on front more later p r next cause h why = elim why [
  | inl b ↦ inl (record {
    shape = b.shape;
    cycle = b.cycle;
    is_next = next_on front more later p r b.shape b.cycle h b.is_next;
    other = b.other;
    is = b.is;
  })
  | inr s ↦ inr (record {
    shape = s.shape;
    cycle = s.cycle;
    whole = p ++ s.whole;
    since = s.since;
    is_next = next_on front more later p s.whole s.shape s.cycle h s.is_next;
    begun = ap (λ l. p ++ l) s.begun ∙ sym (append_assoc p s.whole (Begin s.cycle ∷ s.since));
    inside = s.inside;
  })
]
