-- Laws of `specs/working/Progress.antt`: how events are cut into cycles, and which fronts of them can go on.
use Rattle.std.proofs.Common.{◌≡◌, ℕ, zero, suc, ◌+◌, ◌<◌, ◌≤◌, ◌⊎◌, inl, inr, false, List, [], ◌∷◌, ◌++◌, length, get_or}
use Rattle.std.proofs.Common.{take, drop, refl, sym, ap, ap₂, ◌∙◌, subst, arith, append_assoc, append-nil, length-append}
use Rattle.std.specs.Prelude.{All}
use Rattle.std.specs.List.{flat_map, AllZip}
use Rattle.std.proofs.lemmas.Bool.{true≢false, cases_lt}
use Rattle.std.proofs.lemmas.List.{take-append-drop, take_more, take_all}
use Rattle.std.proofs.lemmas.List.Elements.{All-head, All-tail}
use Rattle.pw_graph.specs.declared.event.Event.{Event}
use Rattle.pw_graph.specs.declared.event.Event.TheVariants.{Begin, End}
use Rattle.pw_graph.specs.declared.shape.Shape.{Shape}
use Rattle.pw_graph.specs.History.{IsLegalInside, IsLegalCycle, AreJoined}
use Rattle.pw_graph.specs.working.HistoryFronts.{is_end}
use Rattle.pw_graph.specs.SoundShape.{IsSoundShape}
use Rattle.trace_check.specs.declared.causes.Cause.{Cause}
use Rattle.trace_check.specs.declared.following.Progress.TheVariants.{Whole, Part}
use Rattle.trace_check.specs.working.NextEvent.{MayFollow, AreAllowed, HaveFinished}
use Rattle.trace_check.specs.working.Progress.{AreSound, GoOn, StopAfter, IsProgressInside}
use Rattle.trace_check.proofs.NextEventLemmas.{none_allowed, allowed_next, endless}
use Rattle.trace_check.proofs.AllowedLemmas.{legal_allowed, legal_finished, allowed_legal}
use Rattle.trace_check.proofs.CompletingLemmas.{completes}

module _ {X : Type 0} where
  -- of two ways to cut a list one cuts further on
  cut_twice : (a b p q : List X) → a ++ b ≡ p ++ q
      → ((r : List X) × (a ≡ p ++ r) × (q ≡ r ++ b)) ⊎ ((r : List X) × (p ≡ a ++ r) × (b ≡ r ++ q))
  cut_twice [] b p q e = inr (p, refl, e)
  cut_twice (x ∷ a) b [] q e = inl (x ∷ a, refl, sym e)
  cut_twice (x ∷ a) b (y ∷ p) q e =
      let t : a ++ b ≡ p ++ q = cc in
      let h : x ≡ y = cc in
      elim (cut_twice a b p q t) [
        | inl w ↦ inl (w.0, ap₂ (λ z zs. z ∷ zs) h w.1, w.2)
        | inr w ↦ inr (w.0, ap₂ (λ z zs. z ∷ zs) (sym h) w.1, w.2)
      ]

  pub take_behind : (p r : List X) (n : ℕ) → take (length p + n) (p ++ r) ≡ p ++ take n r
  take_behind [] r n = let e : 0 + n ≡ n = omega arith in ap (λ k. take k r) e
  take_behind (x ∷ p) r n = let e : suc (length p) + n ≡ suc (length p + n) = omega arith in
      ap (λ k. take k (x ∷ (p ++ r))) e ∙ ap (λ l. x ∷ l) (take_behind p r n)

abbrev IsEndless : List Event → Type 0
IsEndless xs = All (λ e. is_end e ≡ false) xs

-- a row without an End has none after a front
no_end_behind : (i : List Event) (c : ℕ) (r : List Event) → ¬ IsEndless (i ++ End c ∷ r)
no_end_behind [] c r none = true≢false (All-head (λ e. is_end e ≡ false) (End c) r none)
no_end_behind (x ∷ i) c r none = no_end_behind i c r (All-tail (λ e. is_end e ≡ false) x (i ++ End c ∷ r) none)

-- what follows the first End
same_end : (i j r s : List Event) (c : ℕ) → IsEndless i → IsEndless j → i ++ End c ∷ r ≡ j ++ End c ∷ s → r ≡ s
same_end [] [] r s c a b e = cc
same_end [] (y ∷ j) r s c a b e = let h : End c ≡ y = cc in
    absurd (true≢false (ap is_end h ∙ All-head (λ e. is_end e ≡ false) y j b))
same_end (x ∷ i) [] r s c a b e = let h : End c ≡ x = cc in
    absurd (true≢false (ap is_end h ∙ All-head (λ e. is_end e ≡ false) x i a))
same_end (x ∷ i) (y ∷ j) r s c a b e = let t : i ++ End c ∷ r ≡ j ++ End c ∷ s = cc in
    same_end i j r s c (All-tail (λ e. is_end e ≡ false) x i a) (All-tail (λ e. is_end e ≡ false) y j b) t

-- the first cycle of events, and what follows it
pub record FirstCycle (shape : Shape) (cycle : ℕ) (more : List (Shape × ℕ)) (es : List Event) : Type 0 where
  pub inside : List Event
  pub rest : List Event
  pub whole : es ≡ Begin cycle ∷ (inside ++ End cycle ∷ rest)
  pub legal : IsLegalInside shape inside cycle
  pub others : AreJoined more rest

part_then : (cycle : ℕ) (inside rest : List Event) → (Begin cycle ∷ (inside ++ End cycle ∷ [])) ++ rest ≡ Begin cycle ∷ (inside ++ End cycle ∷ rest)
part_then cycle inside rest = ap (λ l. Begin cycle ∷ l) (append_assoc inside (End cycle ∷ []) rest)

cut_parts : (shape : Shape) (cycle : ℕ) (more : List (Shape × ℕ)) (es : List Event) (parts : List (List Event)) → es ≡ flat_map (λ p. p) parts
    → AllZip (λ c part. IsLegalCycle c.0 c.1 part) ((shape, cycle) ∷ more) parts → FirstCycle shape cycle more es
cut_parts shape cycle more es [] e h = absurd h
cut_parts shape cycle more es (p ∷ ps) e h = record {
  inside = h.0.0;
  rest = flat_map (λ q. q) ps;
  whole = e ∙ ap (λ l. l ++ flat_map (λ q. q) ps) h.0.1 ∙ part_then cycle h.0.0 (flat_map (λ q. q) ps);
  legal = h.0.2;
  others = record { parts = ps; joined = refl; legal = h.1 };
}

pub cut : (shape : Shape) (cycle : ℕ) (more : List (Shape × ℕ)) (es : List Event) → AreJoined ((shape, cycle) ∷ more) es → FirstCycle shape cycle more es
cut shape cycle more es h = cut_parts shape cycle more es h.parts h.joined h.legal

pub join : (shape : Shape) (cycle : ℕ) (more : List (Shape × ℕ)) (inside rest : List Event) → IsLegalInside shape inside cycle → AreJoined more rest
    → AreJoined ((shape, cycle) ∷ more) (Begin cycle ∷ (inside ++ End cycle ∷ rest))
join shape cycle more inside rest legal others = record {
  parts = (Begin cycle ∷ (inside ++ End cycle ∷ [])) ∷ others.parts;
  joined = sym (part_then cycle inside rest) ∙ ap (λ l. (Begin cycle ∷ (inside ++ End cycle ∷ [])) ++ l) others.joined;
  legal = ((inside, refl, legal), others.legal);
}

none_parts : (es : List Event) (parts : List (List Event)) → es ≡ flat_map (λ p. p) parts
    → AllZip {A = Shape × ℕ} (λ c part. IsLegalCycle c.0 c.1 part) [] parts → es ≡ []
none_parts es [] e h = e
none_parts es (p ∷ ps) e h = absurd h

pub none_joined : (es : List Event) → AreJoined [] es → es ≡ []
none_joined es h = none_parts es h.parts h.joined h.legal

pub joined_none : AreJoined [] []
joined_none = record { parts = []; joined = refl; legal = tt }

-- what follows the first cycle
rest_joined : (shape : Shape) (cycle : ℕ) (more : List (Shape × ℕ)) (inside rest : List Event) → IsLegalInside shape inside cycle
    → AreJoined ((shape, cycle) ∷ more) (Begin cycle ∷ (inside ++ End cycle ∷ rest)) → AreJoined more rest
rest_joined shape cycle more inside rest legal h =
    let c = cut shape cycle more (Begin cycle ∷ (inside ++ End cycle ∷ rest)) h in
    let tails : inside ++ End cycle ∷ rest ≡ c.inside ++ End cycle ∷ c.rest = tail_of c.whole in
    subst (AreJoined more) (sym (same_end inside c.inside rest c.rest cycle (endless shape cycle inside (legal_allowed shape cycle inside legal))
    (endless shape cycle c.inside (legal_allowed shape cycle c.inside c.legal)) tails)) c.others
  where
    tail_of : {x : Event} {xs ys : List Event} → x ∷ xs ≡ x ∷ ys → xs ≡ ys
    tail_of e = cc

-- cycles one after the other
pub joined_more : (front more : List (Shape × ℕ)) (p r : List Event) → AreJoined front p → AreJoined more r → AreJoined (front ++ more) (p ++ r)
joined_more [] more p r h g = subst (λ l. AreJoined more (l ++ r)) (sym (none_joined p h)) g
joined_more (c ∷ front) more p r h g =
    let k = cut c.0 c.1 front p h in
    let same : p ++ r ≡ Begin c.1 ∷ (k.inside ++ End c.1 ∷ (k.rest ++ r)) =
    ap (λ l. l ++ r) k.whole ∙ ap (λ l. Begin c.1 ∷ l) (append_assoc k.inside (End c.1 ∷ k.rest) r) in
    subst (AreJoined (c ∷ (front ++ more))) (sym same) (join c.0 c.1 (front ++ more) k.inside (k.rest ++ r) k.legal (joined_more front more k.rest r k.others g))

-- and what follows them
pub joined_rest : (front more : List (Shape × ℕ)) (p r : List Event) → AreJoined front p → AreJoined (front ++ more) (p ++ r) → AreJoined more r
joined_rest [] more p r h g = subst (λ l. AreJoined more (l ++ r)) (none_joined p h) g
joined_rest (c ∷ front) more p r h g =
    let k = cut c.0 c.1 front p h in
    let same : p ++ r ≡ Begin c.1 ∷ (k.inside ++ End c.1 ∷ (k.rest ++ r)) =
    ap (λ l. l ++ r) k.whole ∙ ap (λ l. Begin c.1 ∷ l) (append_assoc k.inside (End c.1 ∷ k.rest) r) in
    joined_rest front more k.rest r k.others
    (rest_joined c.0 c.1 (front ++ more) k.inside (k.rest ++ r) k.legal (subst (AreJoined (c ∷ (front ++ more))) same g))

-- ALL CYCLES CAN BE RUN; so can those of which one is begun
pub begun_goes_on : (shape : Shape) (cycle : ℕ) (more : List (Shape × ℕ)) (later : List Event) → IsSoundShape shape → AreJoined more later
    → (inside : List Event) → AreAllowed shape cycle inside → GoOn ((shape, cycle) ∷ more) (Begin cycle ∷ inside)
begun_goes_on shape cycle more later sound others inside all =
    let k = completes shape cycle sound inside all in (
      k.0 ++ End cycle ∷ later,
      subst (AreJoined ((shape, cycle) ∷ more)) (ap (λ l. Begin cycle ∷ l) (append_assoc inside k.0 (End cycle ∷ later)))
          (join shape cycle more (inside ++ k.0) later k.1 others),
    )

pub all_joined : (cycles : List (Shape × ℕ)) → AreSound cycles → (es : List Event) × AreJoined cycles es
all_joined [] sound = ([], joined_none)
all_joined (c ∷ cycles) sound =
    let more = all_joined cycles (All-tail (λ c. IsSoundShape c.0) c cycles sound) in
    let here = begun_goes_on c.0 c.1 cycles more.0 (All-head (λ c. IsSoundShape c.0) c cycles sound) more.1 [] (none_allowed c.0 c.1) in
    ((Begin c.1 ∷ []) ++ here.0, here.1)

-- a front of what can go on can go on
pub front_goes_on : (cycles : List (Shape × ℕ)) (xs ys : List Event) → GoOn cycles (xs ++ ys) → GoOn cycles xs
front_goes_on cycles xs ys g = (ys ++ g.0, subst (AreJoined cycles) (append_assoc xs ys g.0) g.1)

pub joined_goes_on : (cycles : List (Shape × ℕ)) (xs : List Event) (n : ℕ) → AreJoined cycles xs → GoOn cycles (take n xs)
joined_goes_on cycles xs n h = (drop n xs, subst (AreJoined cycles) (sym (take-append-drop n xs)) h)

-- one event after those so far, of a row that goes on to a legal inside and its End
next_inside : (shape : Shape) (cycle : ℕ) (front : List Event) (e : Event) (more inside rest : List Event) → AreAllowed shape cycle front
    → IsLegalInside shape inside cycle → front ++ e ∷ more ≡ inside ++ End cycle ∷ rest
    → MayFollow shape cycle front e ⊎ ((e ≡ End cycle) × (front ≡ inside))
next_inside shape cycle front e more inside rest all legal same = elim (cut_twice front (e ∷ more) inside (End cycle ∷ rest) same) [
  | inl w ↦ longer w.0 w.1 w.2
  | inr w ↦ shorter w.0 w.1 w.2
] where
  longer : (r : List Event) → front ≡ inside ++ r → End cycle ∷ rest ≡ r ++ e ∷ more → MayFollow shape cycle front e ⊎ ((e ≡ End cycle) × (front ≡ inside))
  longer [] a b = let is : e ≡ End cycle = cc in inr (is, a ∙ append-nil inside)
  longer (x ∷ r) a b = let is : x ≡ End cycle = cc in
      absurd (no_end_behind inside cycle r (subst IsEndless (a ∙ ap (λ z. inside ++ z ∷ r) is) (endless shape cycle front all)))

  shorter : (r : List Event) → inside ≡ front ++ r → e ∷ more ≡ r ++ End cycle ∷ rest → MayFollow shape cycle front e ⊎ ((e ≡ End cycle) × (front ≡ inside))
  shorter [] a b = let is : e ≡ End cycle = cc in inr (is, sym (a ∙ append-nil front))
  shorter (x ∷ r) a b = let is : x ≡ e = cc in
      inl (allowed_next shape cycle front r e (subst (AreAllowed shape cycle) (a ∙ ap (λ z. front ++ z ∷ r) is) (legal_allowed shape cycle inside legal)))

module _ (shape : Shape) (cycle : ℕ) (sound : IsSoundShape shape) (later : List (Shape × ℕ)) (sounds : AreSound later) where
  abbrev cycles : List (Shape × ℕ)
  cycles = (shape, cycle) ∷ later

  all_sound : AreSound cycles
  all_sound zero d lt = sound
  all_sound (suc k) d lt = sounds k d (omega arith)

  nothing_goes_on : GoOn cycles []
  nothing_goes_on = all_joined cycles all_sound

  -- events that do not begin the cycle
  pub stop_at_nothing : StopAfter cycles [] 0
  stop_at_nothing = record {
    within = omega arith;
    goes_on = nothing_goes_on;
    stops = λ lt. absurd (omega arith);
    illegal = λ h. let k = cut shape cycle later [] h in let e = k.whole in cc;
  }

  pub stop_at_begin : (first : Event) (rest : List Event) → ¬ (first ≡ Begin cycle) → StopAfter cycles (first ∷ rest) 0
  stop_at_begin first rest ne = record {
    within = omega arith;
    goes_on = nothing_goes_on;
    stops = λ lt g. let k = cut shape cycle later ((first ∷ []) ++ g.0) g.1 in ne (head_of k.whole);
    illegal = λ h. let k = cut shape cycle later (first ∷ rest) h in ne (head_of k.whole);
  } where
    head_of : {x y : Event} {xs ys : List Event} → x ∷ xs ≡ y ∷ ys → x ≡ y
    head_of e = cc

  -- events that stop after the Begin
  pub stop_inside : (rest : List Event) (n : ℕ) (cause : Cause) → IsProgressInside shape cycle rest (Part n cause)
      → StopAfter cycles (Begin cycle ∷ rest) (n + 1)
  stop_inside rest n cause h = record {
    within = let le : n ≤ length rest = h.0 in omega arith;
    goes_on = subst (GoOn cycles) (sym taken) (let more = all_joined later sounds in begun_goes_on shape cycle later more.0 sound more.1 (take n rest) h.1);
    stops = λ lt. no_more (omega arith);
    illegal = λ j. elim (cases_lt n (length rest)) [
      | inl lt ↦ no_more lt (joined_goes_on cycles (Begin cycle ∷ rest) (n + 1 + 1) j)
      | inr ge ↦ (let k = cut shape cycle later (Begin cycle ∷ rest) j in
          let whole : take n rest ≡ rest = take_all n rest ge in
          no_end_behind k.inside cycle k.rest (subst IsEndless (whole ∙ tail_of k.whole) (endless shape cycle (take n rest) h.1)))
    ];
  } where
    tail_of : {x : Event} {xs ys : List Event} → x ∷ xs ≡ x ∷ ys → xs ≡ ys
    tail_of e = cc

    taken : take (n + 1) (Begin cycle ∷ rest) ≡ Begin cycle ∷ take n rest
    taken = let e : n + 1 ≡ suc n = omega arith in ap (λ k. take k (Begin cycle ∷ rest)) e

    taken_more : n < length rest → take (n + 1 + 1) (Begin cycle ∷ rest) ≡ Begin cycle ∷ (take n rest ++ get_or rest n (Begin 0) ∷ [])
    taken_more lt = let e : n + 1 + 1 ≡ suc (n + 1) = omega arith in
        ap (λ k. take k (Begin cycle ∷ rest)) e ∙ ap (λ l. Begin cycle ∷ l) (take_more rest n (Begin 0) lt)

    no_more : n < length rest → ¬ GoOn cycles (take (n + 1 + 1) (Begin cycle ∷ rest))
    no_more lt g =
        let e : Event = get_or rest n (Begin 0) in
        let k = cut shape cycle later (take (n + 1 + 1) (Begin cycle ∷ rest) ++ g.0) g.1 in
        let row : Begin cycle ∷ ((take n rest ++ e ∷ []) ++ g.0) ≡ Begin cycle ∷ (k.inside ++ End cycle ∷ k.rest) =
        ap (λ l. l ++ g.0) (sym (taken_more lt)) ∙ k.whole in
        let same : take n rest ++ e ∷ g.0 ≡ k.inside ++ End cycle ∷ k.rest = sym (append_assoc (take n rest) (e ∷ []) g.0) ∙ tail_of row in
        let no = h.2 lt (Begin 0) in
        elim (next_inside shape cycle (take n rest) e g.0 k.inside k.rest h.1 k.legal same) [
          | inl may ↦ no.0 may
          | inr end ↦ no.1 end.0 (subst (HaveFinished shape cycle) (sym end.1) (legal_finished shape cycle k.inside k.legal))
        ]

-- a whole cycle
pub whole_inside : (shape : Shape) (cycle : ℕ) (rest : List Event) (n : ℕ) → IsProgressInside shape cycle rest (Whole n)
    → AreJoined ((shape, cycle) ∷ []) (take (n + 2) (Begin cycle ∷ rest))
whole_inside shape cycle rest n h =
    let e : n + 2 ≡ suc (n + 1) = omega arith in
    let taken : take (n + 2) (Begin cycle ∷ rest) ≡ Begin cycle ∷ (take n rest ++ End cycle ∷ []) =
    ap (λ k. take k (Begin cycle ∷ rest)) e ∙ ap (λ l. Begin cycle ∷ l) (take_more rest n (Begin 0) h.0)
    ∙ ap (λ x. Begin cycle ∷ (take n rest ++ x ∷ [])) (h.3 (Begin 0)) in
    subst (AreJoined ((shape, cycle) ∷ [])) (sym taken)
    (join shape cycle [] (take n rest) [] (allowed_legal shape cycle (take n rest) h.1 h.2) joined_none)

-- after whole cycles
pub stop_behind : (front more : List (Shape × ℕ)) (p r : List Event) (n : ℕ) → AreJoined front p → StopAfter more r n
    → StopAfter (front ++ more) (p ++ r) (length p + n)
stop_behind front more p r n h s = record {
  within = let a = length-append p r in let b : n ≤ length r = s.within in omega arith;
  goes_on = subst (GoOn (front ++ more)) (sym (take_behind p r n))
      (s.goes_on.0, subst (AreJoined (front ++ more)) (sym (append_assoc p (take n r) s.goes_on.0)) (joined_more front more p (take n r ++ s.goes_on.0) h s.goes_on.1));
  stops = λ lt g. let a = length-append p r in
      let one : length p + n + 1 ≡ length p + (n + 1) = omega arith in
      let taken : take (length p + n + 1) (p ++ r) ≡ p ++ take (n + 1) r = ap (λ k. take k (p ++ r)) one ∙ take_behind p r (n + 1) in
      s.stops (omega arith) (
        g.0,
        joined_rest front more p (take (n + 1) r ++ g.0) h
            (subst (AreJoined (front ++ more)) (ap (λ l. l ++ g.0) taken ∙ append_assoc p (take (n + 1) r) g.0) g.1),
      );
  illegal = λ j. s.illegal (joined_rest front more p r h j);
}

-- nothing may follow all cycles
pub stop_at_end : (rest : List Event) → 0 < length rest → StopAfter [] rest 0
stop_at_end [] some = absurd (omega arith)
stop_at_end (x ∷ xs) some = record {
  within = omega arith;
  goes_on = ([], joined_none);
  stops = λ lt g. let e = none_joined ((x ∷ []) ++ g.0) g.1 in cc;
  illegal = λ j. let e = none_joined (x ∷ xs) j in cc;
}
