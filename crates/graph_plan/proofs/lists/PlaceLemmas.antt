-- Places of a list with one thing more, and namings of a plan with one epoch more.
use Rattle.std.proofs.Common.{◌≡◌, ◌⊎◌, inl, inr, ℕ, zero, suc, List, [], ◌∷◌, ◌++◌, length, Some, refl, sym, ap, subst}
use Rattle.std.specs.Prelude.{slice_get, Contains}
use Rattle.std.proofs.lemmas.Option.{same_Some, none-some}
use Rattle.pw_graph.specs.declared.plan.Epoch.{Epoch}
use Rattle.pw_graph.specs.declared.plan.Plan.{Plan}
use Rattle.pw_graph.specs.PlanFresh.{Names}
use Rattle.graph_plan.specs.working.NextEpoch.{with_epoch}

pub left : {X : Type 0} (xs : List X) (y x : X) (i : ℕ) → slice_get xs i ≡ Some x → slice_get (xs ++ y ∷ []) i ≡ Some x
left [] y x i e = absurd (none-some x e)
left (z ∷ xs) y x zero e = e
left (z ∷ xs) y x (suc i) e = left xs y x i e

pub at_end : {X : Type 0} (xs : List X) (y : X) → slice_get (xs ++ y ∷ []) (length xs) ≡ Some y
at_end [] y = refl
at_end (z ∷ xs) y = at_end xs y

pub parted : {X : Type 0} (xs : List X) (y x : X) (i : ℕ) → slice_get (xs ++ y ∷ []) i ≡ Some x
    → (slice_get xs i ≡ Some x) ⊎ ((i ≡ length xs) × (y ≡ x))
parted [] y x zero e = inr (refl, same_Some y x e)
parted [] y x (suc i) e = absurd (none-some x e)
parted (z ∷ xs) y x zero e = inl e
parted (z ∷ xs) y x (suc i) e = elim (parted xs y x i e) [ inl h ↦ inl h | inr h ↦ inr (ap suc h.0, h.1) ]

module _ (plan : Plan) (e : Epoch) where
  pub lifted : (k n c : ℕ) → Names plan k n c → Names (with_epoch plan e) k n c
  lifted k n c w = record { epoch = w.epoch; at = left plan.epochs e w.epoch k w.at; entry = w.entry }

  pub at_last : (n c : ℕ) → Contains e.fresh (record { node = n; channels = c }) → Names (with_epoch plan e) (length plan.epochs) n c
  at_last n c w = record { epoch = e; at = at_end plan.epochs e; entry = w }

  -- a naming is an old one, or the new epoch's
  pub named_by : (k n c : ℕ) → Names (with_epoch plan e) k n c → Names plan k n c
      ⊎ ((k ≡ length plan.epochs) × Contains e.fresh (record { node = n; channels = c }))
  named_by k n c w = elim (parted plan.epochs e w.epoch k w.at) [
    | inl h ↦ inl (record { epoch = w.epoch; at = h; entry = w.entry })
    | inr h ↦ inr (h.0, subst (λ (x : Epoch). Contains x.fresh (record { node = n; channels = c })) (sym h.1) w.entry)
  ]
