-- Laws of `specs/working/NextEvent.antt`: fronts of what is allowed, and one event more.
use Rattle.std.proofs.Common.{◌≡◌, ℕ, ◌+◌, inl, inr, false, List, [], ◌∷◌, ◌++◌, length, get_or, take}
use Rattle.std.proofs.Common.{refl, sym, subst, arith, length-append}
use Rattle.std.specs.Prelude.{All, Contains}
use Rattle.std.proofs.lemmas.Bool.{cases_lt}
use Rattle.std.proofs.lemmas.List.{take-append-le, take_at, get_or_append_left, get_or_at}
use Rattle.pw_graph.specs.declared.event.Event.{Event}
use Rattle.pw_graph.specs.declared.event.Event.TheVariants.{Begin, Start, Finish, Tick, End}
use Rattle.pw_graph.specs.declared.shape.Shape.{Shape}
use Rattle.pw_graph.specs.Dependencies.{nodes_of}
use Rattle.pw_graph.specs.working.HistoryFronts.{is_end}
use Rattle.trace_check.specs.working.NextEvent.{MayFollow, AreAllowed}

module _ (shape : Shape) (cycle : ℕ) where
  pub none_allowed : AreAllowed shape cycle []
  none_allowed k d lt = absurd (omega arith)

  -- one event more
  pub allowed_more : (xs : List Event) (e : Event) → AreAllowed shape cycle xs → MayFollow shape cycle xs e → AreAllowed shape cycle (xs ++ e ∷ [])
  allowed_more xs e all may k d lt =
      let long : length (xs ++ e ∷ []) ≡ length xs + 1 = length-append xs (e ∷ []) in
      elim (cases_lt k (length xs)) [
        | inl low ↦ (let front : take k (xs ++ e ∷ []) ≡ take k xs = take-append-le k xs (e ∷ []) (omega arith) in
            let here : get_or (xs ++ e ∷ []) k d ≡ get_or xs k d = get_or_append_left xs (e ∷ []) d k low in
            subst (λ (p : List Event × Event). MayFollow shape cycle p.0 p.1) (λ i. (sym front i, sym here i)) (all k d low))
        | inr high ↦ (let at : length xs ≡ k = omega arith in
            let front : take k (xs ++ e ∷ []) ≡ xs = take_at xs (e ∷ []) k at in
            let here : get_or (xs ++ e ∷ []) k d ≡ e = get_or_at xs e [] d k at in
            subst (λ (p : List Event × Event). MayFollow shape cycle p.0 p.1) (λ i. (sym front i, sym here i)) may)
      ]

  -- the event after a front
  pub allowed_next : (xs ys : List Event) (e : Event) → AreAllowed shape cycle (xs ++ e ∷ ys) → MayFollow shape cycle xs e
  allowed_next xs ys e all =
      let long : length (xs ++ e ∷ ys) ≡ length xs + length (e ∷ ys) = length-append xs (e ∷ ys) in
      let front : take (length xs) (xs ++ e ∷ ys) ≡ xs = take_at xs (e ∷ ys) (length xs) refl in
      let here : get_or (xs ++ e ∷ ys) (length xs) e ≡ e = get_or_at xs e ys e (length xs) refl in
      subst (λ (p : List Event × Event). MayFollow shape cycle p.0 p.1) (λ i. (front i, here i)) (all (length xs) e (omega arith))

  -- a front
  pub allowed_front : (xs ys : List Event) → AreAllowed shape cycle (xs ++ ys) → AreAllowed shape cycle xs
  allowed_front xs ys all k d low =
      let long : length (xs ++ ys) ≡ length xs + length ys = length-append xs ys in
      let front : take k (xs ++ ys) ≡ take k xs = take-append-le k xs ys (omega arith) in
      let here : get_or (xs ++ ys) k d ≡ get_or xs k d = get_or_append_left xs ys d k low in
      subst (λ (p : List Event × Event). MayFollow shape cycle p.0 p.1) (λ i. (front i, here i)) (all k d (omega arith))

  -- no End may follow
  not_end : (front : List Event) (e : Event) → MayFollow shape cycle front e → is_end e ≡ false
  not_end front (Begin c) h = absurd h
  not_end front (Start c n) h = refl
  not_end front (Finish c n) h = refl
  not_end front (Tick c late) h = refl
  not_end front (End c) h = absurd h

  pub endless : (xs : List Event) → AreAllowed shape cycle xs → All (λ e. is_end e ≡ false) xs
  endless xs all k d lt = not_end (take k xs) (get_or xs k d) (all k d lt)

  -- a node that has started is active
  pub started_active : (xs : List Event) (n : ℕ) → AreAllowed shape cycle xs → Contains xs (Start cycle n) → Contains (nodes_of shape) n
  started_active xs n all c =
      (subst (MayFollow shape cycle (take c.0 xs)) c.2 (all c.0 (Start cycle n) c.1)).1
