-- What an input receives in an epoch of one cycle, over no link or over one.
use Rattle.std.proofs.Common.{◌≡◌, ℕ, ◌+◌, ◌*◌, ◌<◌, ◌≤◌, Bool, true, false, nat_lt, List, [], ◌∷◌, length, map, filter, find}
use Rattle.std.proofs.Common.{fold, Some, None, count_by, ℤ, refl, sym, ap, ◌∙◌, subst, arith, ⊎_elim}
use Rattle.std.proofs.lemmas.Bool.{cases_Bool, cond-true, cond-false, lt-ltb}
use Rattle.std.proofs.lemmas.List.Sums.{length-filter}
use Rattle.std.proofs.lemmas.Option.{same_Some, none-some}
use Rattle.pw_graph.specs.declared.plan.Epoch.{Epoch}
use Rattle.pw_graph.specs.declared.plan.Plan.{Plan}
use Rattle.pw_graph.specs.declared.shape.ShapeLink.{ShapeLink}
use Rattle.pw_graph.specs.KindPorts.{input_count}
use Rattle.pw_graph.specs.PlanForms.{kind_at}
use Rattle.pw_graph.specs.PlanFresh.{IsEpoch}
use Rattle.pw_graph.specs.Pools.{is_same_port}
use Rattle.pw_lists.specs.Samples.{clamped, silence, summed}
use Rattle.pw_graph.specs.SoundPlan.{IsSoundPlan}
use Rattle.cycle_model.specs.Epochs.{epoch_at, listed, channels_of}
use Rattle.cycle_model.specs.Cycle.{Outputs, outputs, brought, input_of}
use Rattle.cycle_model.proofs.ExpectedLemmas.{cycle_in}
use Rattle.node_progress.specs.declared.run_model.RunModel.{RunModel}
use Rattle.node_progress.specs.Standing.{port_at, receives, goes_out}

-- an element that is found first, of at most one
none_passes : {X : Type 0} (p : X → Bool) (xs : List X) → find p xs ≡ None → filter p xs ≡ []
none_passes p [] e = refl
none_passes p (x ∷ xs) e = ⊎_elim
    (λ (t : p x ≡ true). absurd (none-some x (sym (rw t at e))))
    (λ (f : p x ≡ false). rw f (none_passes p xs (rw f at e)))
    (cases_Bool (p x))

no_length : {X : Type 0} (xs : List X) → length xs ≤ 0 → xs ≡ []
no_length [] few = refl
no_length (x ∷ xs) few = absurd (omega (arith, few))

only_passes : {X : Type 0} (p : X → Bool) (xs : List X) (y : X) → length (filter p xs) ≤ 1 → find p xs ≡ Some y → filter p xs ≡ y ∷ []
only_passes p [] y few e = absurd (none-some y e)
only_passes p (x ∷ xs) y few e = ⊎_elim
    (λ (t : p x ≡ true). let is : x ≡ y = same_Some x y (rw t at e) in
    let one : length (x ∷ filter p xs) ≤ 1 = rw t at few in
    rw t (ap (λ l. x ∷ l) (no_length (filter p xs) (omega (arith, one))) ∙ ap (λ z. z ∷ []) is))
    (λ (f : p x ≡ false). rw f (only_passes p xs y (rw f at few) (rw f at e)))
    (cases_Bool (p x))

one_passes : {X : Type 0} (p : X → Bool) (xs : List X) (y : X) → count_by p xs ≤ 1 → find p xs ≡ Some y → filter p xs ≡ y ∷ []
one_passes p xs y few e = only_passes p xs y (subst (λ m. m ≤ 1) (sym (length-filter p xs)) few) e

module _ (run_model : RunModel) (sound : IsSoundPlan run_model.plan.value) (k n : ℕ) (e : Epoch) (at : IsEpoch run_model.plan.value k e)
    (cycle : (e.shape.first ≡ k) × (e.shape.cycles ≡ 1)) (hears : 0 < input_count (kind_at run_model.plan.value n)) where
  abbrev plan : Plan
  plan = run_model.plan.value

  abbrev out : Outputs
  out = outputs plan run_model.waves.value

  here : epoch_at plan k ≡ Some e
  here = let first = cycle.0 in let one = cycle.1 in let is : e.shape.first + 0 ≡ k = omega (arith, first) in
      subst (λ c. epoch_at plan c ≡ Some e) is (cycle_in plan sound k e 0 at (omega (arith, one)))

  comes_of : (m : ℕ) (rows : List (List ℤ)) → m ≡ plan.quantum * channels_of e.forms (port_at n 0)
      → map (λ l. brought plan out k l) (filter (λ x. is_same_port x.to (port_at n 0)) e.shape.links) ≡ rows
      → map clamped (fold summed (silence m) rows) ≡ receives run_model k n 0
  comes_of m rows wide are = sym (cond-true (nat_lt 0 (input_count (kind_at plan n))) (input_of plan out k (port_at n 0)) []
      (lt-ltb 0 (input_count (kind_at plan n)) hears)
      ∙ ap (λ o. map clamped (fold summed (silence (plan.quantum * channels_of (listed (λ x. x.forms) o) (port_at n 0)))
      (map (λ l. brought plan out k l) (filter (λ x. is_same_port x.to (port_at n 0)) (listed (λ x. x.shape.links) o))))) here
      ∙ (λ i. map clamped (fold summed (silence (sym wide i)) (are i))))

  pub comes_silent : (m : ℕ) → m ≡ plan.quantum * channels_of e.forms (port_at n 0)
      → find (λ x. is_same_port x.to (port_at n 0)) e.shape.links ≡ None → map clamped (silence m) ≡ receives run_model k n 0
  comes_silent m wide none = comes_of m [] wide
      (ap (map (λ l. brought plan out k l)) (none_passes (λ x. is_same_port x.to (port_at n 0)) e.shape.links none))

  pub comes_alone : (m : ℕ) (row : List ℤ) (l : ShapeLink) (from : ℕ) → m ≡ plan.quantum * channels_of e.forms (port_at n 0)
      → count_by (λ x. is_same_port x.to (port_at n 0)) e.shape.links ≤ 1
      → find (λ x. is_same_port x.to (port_at n 0)) e.shape.links ≡ Some l
      → l.from ≡ port_at from (input_count (kind_at plan from)) → l.delayed ≡ false → row ≡ goes_out run_model k from 0
      → map clamped (summed (silence m) row) ≡ receives run_model k n 0
  comes_alone m row l from wide few some port prompt is = comes_of m (row ∷ []) wide
      (ap (map (λ l. brought plan out k l)) (one_passes (λ x. is_same_port x.to (port_at n 0)) e.shape.links l few some)
      ∙ ap (λ r. r ∷ []) (cond-false l.delayed _ (out k l.from) prompt ∙ ap (out k) port
      ∙ (let z : input_count (kind_at plan from) ≡ input_count (kind_at plan from) + 0 = omega arith in ap (λ i. out k (port_at from i)) z)
      ∙ sym is))
