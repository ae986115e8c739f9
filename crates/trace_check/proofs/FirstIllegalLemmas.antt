-- Laws of `specs/FirstIllegal.antt`.
use Rattle.std.proofs.Common.{◌≡◌, ℕ, ◌+◌, ◌≤◌, inl, inr, List, ◌++◌, length, take, drop, sym, ap, ◌∙◌, subst, arith}
use Rattle.std.proofs.lemmas.Bool.{cases_lt}
use Rattle.std.proofs.lemmas.List.{take-append-drop, take-take}
use Rattle.pw_graph.specs.declared.event.Event.{Event}
use Rattle.pw_graph.specs.declared.shape.Shape.{Shape}
use Rattle.pw_graph.specs.History.{cycles_of}
use Rattle.trace_check.specs.FirstIllegal.{IsFirstIllegal}
use Rattle.trace_check.specs.working.Progress.{GoOn, StopAfter}
use Rattle.trace_check.proofs.ProgressLemmas.{front_goes_on}

-- where the cycles of the epochs stop
pub first_illegal : (shapes : List Shape) (events : List Event) (n at : ℕ) → at ≡ n + 1 → StopAfter (cycles_of shapes) events n → IsFirstIllegal shapes events at
first_illegal shapes events n at is s = record {
  illegal = s.illegal;
  counted = omega arith;
  before = λ k lt. let front : take k (take n events) ≡ take k events = take-take k n events (omega arith) in
      front_goes_on (cycles_of shapes) (take k events) (drop k (take n events))
      (subst (GoOn (cycles_of shapes)) (sym (ap (λ l. l ++ drop k (take n events)) (sym front) ∙ take-append-drop k (take n events))) s.goes_on);
  fault = elim (cases_lt n (length events)) [
    | inl lt ↦ inl (omega arith, λ g. s.stops lt (subst (λ k. GoOn (cycles_of shapes) (take k events)) is g))
    | inr ge ↦ (let le : n ≤ length events = s.within in inr (omega arith))
  ];
}
