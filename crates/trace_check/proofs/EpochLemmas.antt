-- Fronts of the cycles of an epoch, and of epochs one after the other.
use Rattle.std.proofs.Common.{◌≡◌, ℕ, zero, suc, ◌+◌, ◌<◌, ◌≤◌, Option, refl, List, [], ◌∷◌, ◌++◌, map, length, get_or, take, drop, sym, ap, ◌∙◌, subst, arith}
use Rattle.std.proofs.Common.{append_assoc, append-nil}
use Rattle.std.specs.Prelude.{All, slice_get}
use Rattle.std.specs.List.{range_with_len}
use Rattle.std.proofs.lemmas.List.{take-append-drop, length-take-le, length-drop, map-append, take_more}
use Rattle.std.proofs.lemmas.List.Elements.{All-map, All-drop, All-append, All-nil, All-head, All-tail}
use Rattle.std.proofs.lemmas.List.FromFn.{map-range_with_len_more, take-map-range_with_len}
use Rattle.std.proofs.lemmas.Grind.{flat_map-append}
use Rattle.pw_graph.specs.declared.event.Event.{Event}
use Rattle.pw_graph.specs.declared.plan.Epoch.{Epoch}
use Rattle.pw_graph.specs.declared.shape.Shape.{Shape}
use Rattle.pw_graph.specs.History.{AreJoined, epoch_cycles, cycles_of}
use Rattle.pw_graph.specs.SoundShape.{IsSoundShape}
use Rattle.trace_check.specs.declared.causes.Cause.{Cause}
use Rattle.trace_check.specs.Reasons.{IsCauseIn}
use Rattle.trace_check.specs.working.Progress.{AreSound, StopAfter, StopsAfter}
use Rattle.trace_check.proofs.CauseLemmas.{cause_on}
use Rattle.trace_check.proofs.ProgressLemmas.{take_behind, joined_more, stop_behind, stop_at_end}

-- a front of what is after a front
taken_on : (es : List Event) (at n : ℕ) → at ≤ length es → take (at + n) es ≡ take at es ++ take n (drop at es)
taken_on es at n le =
    let long : length (take at es) ≡ at = length-take-le at es le in
    ap (take (at + n)) (sym (take-append-drop at es)) ∙ ap (λ k. take (k + n) (take at es ++ drop at es)) (sym long)
    ∙ take_behind (take at es) (drop at es) n

-- after whole cycles, of the rest of a row
pub stops_on : (front more : List (Shape × ℕ)) (es : List Event) (at n : ℕ) → at ≤ length es → AreJoined front (take at es)
    → StopAfter more (drop at es) n → StopAfter (front ++ more) es (at + n)
stops_on front more es at n le h s =
    let long : length (take at es) ≡ at = length-take-le at es le in
    subst (λ (p : List Event × ℕ). StopAfter (front ++ more) p.0 (p.1 + n)) (λ i. (take-append-drop at es i, long i))
    (stop_behind front more (take at es) (drop at es) n h s)

pub joins_on : (front more : List (Shape × ℕ)) (es : List Event) (at n : ℕ) → at ≤ length es → AreJoined front (take at es)
    → AreJoined more (take n (drop at es)) → AreJoined (front ++ more) (take (at + n) es)
joins_on front more es at n le h g = subst (AreJoined (front ++ more)) (sym (taken_on es at n le))
    (joined_more front more (take at es) (take n (drop at es)) h g)

-- and the cause for which they stop, whatever cycles are later
got_on : (es : List Event) (at n : ℕ) → slice_get (drop at es) n ≡ slice_get es (at + n)
got_on es zero n = let e : n ≡ 0 + n = omega arith in ap (slice_get es) e
got_on [] (suc at) n = refl
got_on (x ∷ es) (suc at) n = let e : suc (at + n) ≡ suc at + n = omega arith in
    got_on es at n ∙ ap (slice_get (x ∷ es)) e

causes_on : (front more later : List (Shape × ℕ)) (es : List Event) (at n : ℕ) (cause : Cause) → at ≤ length es
    → AreJoined front (take at es) → IsCauseIn more (take n (drop at es)) (slice_get (drop at es) n) cause
    → IsCauseIn (front ++ (more ++ later)) (take (at + n) es) (slice_get es (at + n)) cause
causes_on front more later es at n cause le h why =
    subst (λ (p : List Event × Option Event). IsCauseIn (front ++ (more ++ later)) p.0 p.1 cause)
    (λ i. (sym (taken_on es at n le) i, got_on es at n i))
    (cause_on front more later (take at es) (take n (drop at es)) (slice_get (drop at es) n) cause h why)

module _ (shape : Shape) (sound : IsSoundShape shape) where
  pub epoch_sound : (count : ℕ) → AreSound (epoch_cycles shape count)
  epoch_sound count = All-map (λ (c : Shape × ℕ). IsSoundShape c.0) (λ k. (shape, k)) (range_with_len shape.first count) (λ k d lt. sound)

  module _ (k cycle : ℕ) (is : cycle ≡ shape.first + k) where
    one_more : epoch_cycles shape (k + 1) ≡ epoch_cycles shape k ++ (shape, cycle) ∷ []
    one_more = map-range_with_len_more {X = Shape × ℕ} (λ c. (shape, c)) shape.first k cycle (sym is)

    abbrev others : List (Shape × ℕ)
    others = drop (k + 1) (epoch_cycles shape shape.cycles)

    whole : k < shape.cycles → epoch_cycles shape k ++ ((shape, cycle) ∷ others) ≡ epoch_cycles shape shape.cycles
    whole lt =
        let begun : take (k + 1) (epoch_cycles shape shape.cycles) ≡ epoch_cycles shape (k + 1) =
        take-map-range_with_len {X = Shape × ℕ} (λ c. (shape, c)) shape.first shape.cycles (k + 1) (omega arith) in
        sym (append_assoc (epoch_cycles shape k) ((shape, cycle) ∷ []) others) ∙ ap (λ cs. cs ++ others) (sym (begun ∙ one_more))
        ∙ take-append-drop (k + 1) (epoch_cycles shape shape.cycles)

    -- one cycle more of an epoch
    pub epoch_more : (es : List Event) (at n : ℕ) → at ≤ length es → AreJoined (epoch_cycles shape k) (take at es)
        → AreJoined ((shape, cycle) ∷ []) (take n (drop at es)) → AreJoined (epoch_cycles shape (k + 1)) (take (at + n) es)
    epoch_more es at n le h g = subst (λ cs. AreJoined cs (take (at + n) es)) (sym one_more)
        (joins_on (epoch_cycles shape k) ((shape, cycle) ∷ []) es at n le h g)

    pub epoch_stops : (es : List Event) (at n : ℕ) → k < shape.cycles → at ≤ length es → AreJoined (epoch_cycles shape k) (take at es)
        → StopsAfter ((shape, cycle) ∷ []) (drop at es) n → StopsAfter (epoch_cycles shape shape.cycles) es (at + n)
    epoch_stops es at n lt le h stops later sounds =
        let rest : AreSound (others ++ later) = All-append (λ c. IsSoundShape c.0) others later
        (All-drop (λ c. IsSoundShape c.0) (k + 1) (epoch_cycles shape shape.cycles) (epoch_sound shape.cycles)) sounds in
        let same : epoch_cycles shape k ++ ((shape, cycle) ∷ (others ++ later)) ≡ epoch_cycles shape shape.cycles ++ later =
        sym (append_assoc (epoch_cycles shape k) ((shape, cycle) ∷ others) later) ∙ ap (λ cs. cs ++ later) (whole lt) in
        subst (λ cs. StopAfter cs es (at + n)) same
        (stops_on (epoch_cycles shape k) ((shape, cycle) ∷ (others ++ later)) es at n le h (stops (others ++ later) rest))

    pub epoch_cause : (es : List Event) (at n : ℕ) (cause : Cause) → k < shape.cycles → at ≤ length es
        → AreJoined (epoch_cycles shape k) (take at es)
        → IsCauseIn ((shape, cycle) ∷ []) (take n (drop at es)) (slice_get (drop at es) n) cause
        → IsCauseIn (epoch_cycles shape shape.cycles) (take (at + n) es) (slice_get es (at + n)) cause
    epoch_cause es at n cause lt le h why = subst (λ cs. IsCauseIn cs (take (at + n) es) (slice_get es (at + n)) cause) (whole lt)
        (causes_on (epoch_cycles shape k) ((shape, cycle) ∷ []) others es at n cause le h why)

abbrev of_epochs : List Epoch → List (Shape × ℕ)
of_epochs epochs = cycles_of (map (λ e. e.shape) epochs)

of_epochs-append : (xs ys : List Epoch) → of_epochs (xs ++ ys) ≡ of_epochs xs ++ of_epochs ys
of_epochs-append xs ys = ap cycles_of (map-append (λ (e : Epoch). e.shape) xs ys)
    ∙ flat_map-append (λ s. epoch_cycles s s.cycles) (map (λ (e : Epoch). e.shape) xs) (map (λ (e : Epoch). e.shape) ys)

all_sound : (epochs : List Epoch) → All (λ e. IsSoundShape e.shape) epochs → AreSound (of_epochs epochs)
all_sound [] sound = All-nil (λ c. IsSoundShape c.0)
all_sound (e ∷ epochs) sound = All-append (λ c. IsSoundShape c.0) (epoch_cycles e.shape e.shape.cycles) (of_epochs epochs)
    (epoch_sound e.shape (All-head (λ e. IsSoundShape e.shape) e epochs sound) e.shape.cycles)
    (all_sound epochs (All-tail (λ e. IsSoundShape e.shape) e epochs sound))

module _ (epochs : List Epoch) (i : ℕ) (e : Epoch) (lt : i < length epochs) (is : e ≡ get_or epochs i e) where
  next_epoch : of_epochs (take (i + 1) epochs) ≡ of_epochs (take i epochs) ++ epoch_cycles e.shape e.shape.cycles
  next_epoch = ap of_epochs (take_more epochs i e lt ∙ ap (λ x. take i epochs ++ x ∷ []) (sym is))
      ∙ of_epochs-append (take i epochs) (e ∷ [])
      ∙ ap (λ cs. of_epochs (take i epochs) ++ cs) (append-nil (epoch_cycles e.shape e.shape.cycles))

  abbrev behind : List (Shape × ℕ)
  behind = of_epochs (drop (i + 1) epochs)

  all_epochs : of_epochs (take i epochs) ++ (epoch_cycles e.shape e.shape.cycles ++ behind) ≡ of_epochs epochs
  all_epochs = sym (append_assoc (of_epochs (take i epochs)) (epoch_cycles e.shape e.shape.cycles) behind)
      ∙ ap (λ cs. cs ++ behind) (sym next_epoch) ∙ sym (of_epochs-append (take (i + 1) epochs) (drop (i + 1) epochs))
      ∙ ap of_epochs (take-append-drop (i + 1) epochs)

  -- one epoch more
  pub history_more : (es : List Event) (at n : ℕ) → at ≤ length es → AreJoined (cycles_of (map (λ e. e.shape) (take i epochs))) (take at es)
      → AreJoined (epoch_cycles e.shape e.shape.cycles) (take n (drop at es))
      → AreJoined (cycles_of (map (λ e. e.shape) (take (i + 1) epochs))) (take (at + n) es)
  history_more es at n le h g = subst (λ cs. AreJoined cs (take (at + n) es)) (sym next_epoch)
      (joins_on (of_epochs (take i epochs)) (epoch_cycles e.shape e.shape.cycles) es at n le h g)

  pub history_stops : (es : List Event) (at n : ℕ) → All (λ e. IsSoundShape e.shape) epochs → at ≤ length es
      → AreJoined (cycles_of (map (λ e. e.shape) (take i epochs))) (take at es)
      → StopsAfter (epoch_cycles e.shape e.shape.cycles) (drop at es) n → StopsAfter (cycles_of (map (λ e. e.shape) epochs)) es (at + n)
  history_stops es at n sound le h stops later sounds =
      let rest : AreSound (behind ++ later) = All-append (λ c. IsSoundShape c.0) behind later
      (all_sound (drop (i + 1) epochs) (All-drop (λ e. IsSoundShape e.shape) (i + 1) epochs sound)) sounds in
      let same : of_epochs (take i epochs) ++ (epoch_cycles e.shape e.shape.cycles ++ (behind ++ later)) ≡ of_epochs epochs ++ later =
      ap (λ cs. of_epochs (take i epochs) ++ cs) (sym (append_assoc (epoch_cycles e.shape e.shape.cycles) behind later))
      ∙ sym (append_assoc (of_epochs (take i epochs)) (epoch_cycles e.shape e.shape.cycles ++ behind) later) ∙ ap (λ cs. cs ++ later) all_epochs in
      subst (λ cs. StopAfter cs es (at + n)) same
      (stops_on (of_epochs (take i epochs)) (epoch_cycles e.shape e.shape.cycles ++ (behind ++ later)) es at n le h (stops (behind ++ later) rest))

  pub history_cause : (es : List Event) (at n : ℕ) (cause : Cause) → at ≤ length es
      → AreJoined (cycles_of (map (λ e. e.shape) (take i epochs))) (take at es)
      → IsCauseIn (epoch_cycles e.shape e.shape.cycles) (take n (drop at es)) (slice_get (drop at es) n) cause
      → IsCauseIn (cycles_of (map (λ e. e.shape) epochs)) (take (at + n) es) (slice_get es (at + n)) cause
  history_cause es at n cause le h why = subst (λ cs. IsCauseIn cs (take (at + n) es) (slice_get es (at + n)) cause) all_epochs
      (causes_on (of_epochs (take i epochs)) (epoch_cycles e.shape e.shape.cycles) behind es at n cause le h why)

-- after all epochs
pub history_ends : (cycles : List (Shape × ℕ)) (es : List Event) (at : ℕ) → at < length es → AreJoined cycles (take at es) → StopAfter cycles es at
history_ends cycles es at lt h =
    let some : 0 < length (drop at es) = behind_some in
    let all : at + 0 ≡ at = omega arith in
    subst (λ (p : List (Shape × ℕ) × ℕ). StopAfter p.0 es p.1) (λ j. (append-nil cycles j, all j))
    (stops_on cycles [] es at 0 (omega arith) h (stop_at_end (drop at es) some))
  where
    behind_some : 0 < length (drop at es)
    behind_some = omega (arith, length-drop at es)
