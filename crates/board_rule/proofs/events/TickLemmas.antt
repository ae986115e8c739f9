-- The Ticks that the driver's seat keeps are those of the log whose late sets are stored.
use Rattle.std.proofs.Common.{◌≡◌, ℕ, ◌&&◌, Bool, true, false, cond, not, List, [], ◌∷◌, ◌++◌, refl, sym, ap, ◌∙◌, arith, append-nil}
use Rattle.std.specs.Prelude.{All, filter, count_by}
use Rattle.std.proofs.lemmas.List.Elements.{All-head, All-tail, filter-append}
use Rattle.std.proofs.lemmas.List.Sums.{sum_by-cons}
use Rattle.pw_graph.specs.declared.event.Event.{Event}
use Rattle.pw_graph.specs.declared.event.Event.TheVariants.{Begin, Start, Finish, Tick, End}
use Rattle.pw_graph.specs.History.{is_tick}
use Rattle.board_rule.specs.declared.view.DriverPhase.{DriverPhase}
use Rattle.board_rule.specs.declared.view.DriverView.{DriverView}
use Rattle.board_rule.specs.Layout.{BoardLayout}
use Rattle.board_rule.specs.View.{Whole}
use Rattle.board_rule.specs.events.LateSets.{is_looking, stored_ticks}
use Rattle.board_rule.specs.events.EventRule.{IsSoFar}

and_true : (b : Bool) → (b && true) ≡ b
and_true true = refl
and_true false = refl

and_false : (b : Bool) → (b && false) ≡ false
and_false true = refl
and_false false = refl

-- of a list of events without a Tick, and of the events of a cycle, which has one where it has a check
no_tick : (xs : List Event) → count_by is_tick xs ≡ 0 → filter is_tick xs ≡ []
no_tick [] h = refl
no_tick (x ∷ xs) h = by (is_tick x) refl (no_tick xs)
  where
    by : (b : Bool) → is_tick x ≡ b → (count_by is_tick xs ≡ 0 → filter is_tick xs ≡ []) → filter is_tick (x ∷ xs) ≡ []
    by true e rest = let s = sum_by-cons (λ z. cond (is_tick z) 1 0) x xs in
        let one : cond {A = ℕ} (is_tick x) 1 0 ≡ 1 = ap (λ b. cond {A = ℕ} b 1 0) e in absurd (omega arith)
    by false e rest = let s = sum_by-cons (λ z. cond (is_tick z) 1 0) x xs in
        let none : cond {A = ℕ} (is_tick x) 1 0 ≡ 0 = ap (λ b. cond {A = ℕ} b 1 0) e in
        ap (λ b. cond b (x ∷ filter is_tick xs) (filter is_tick xs)) e ∙ rest (omega arith)

module _ (p : BoardLayout) (c late : ℕ) where
  pub one_tick : (xs : List Event) (b : Bool) → All (IsSoFar p c late) xs → count_by is_tick xs ≡ cond b 1 0
      → filter is_tick xs ≡ cond b (Tick c late ∷ []) []
  one_tick [] true only h = absurd (omega arith)
  one_tick [] false only h = refl
  one_tick (Begin k ∷ xs) b only h = absurd (All-head (IsSoFar p c late) (Begin k) xs only)
  one_tick (End k ∷ xs) b only h = absurd (All-head (IsSoFar p c late) (End k) xs only)
  one_tick (Start k n ∷ xs) b only h = let s = sum_by-cons (λ z. cond (is_tick z) 1 0) (Start k n) xs in
      one_tick xs b (All-tail (IsSoFar p c late) (Start k n) xs only) (omega arith)
  one_tick (Finish k n ∷ xs) b only h = let s = sum_by-cons (λ z. cond (is_tick z) 1 0) (Finish k n) xs in
      one_tick xs b (All-tail (IsSoFar p c late) (Finish k n) xs only) (omega arith)
  one_tick (Tick k set ∷ xs) true only h = let s = sum_by-cons (λ z. cond (is_tick z) 1 0) (Tick k set) xs in
      let o = All-head (IsSoFar p c late) (Tick k set) xs only in
      (λ i. Tick (o.0 i) (o.1 i) ∷ no_tick xs (omega arith) i)
  one_tick (Tick k set ∷ xs) false only h = let s = sum_by-cons (λ z. cond (is_tick z) 1 0) (Tick k set) xs in absurd (omega arith)

module _ (p : BoardLayout) (g : Whole) (old : stored_ticks g.past g.lead g.late ≡ g.lead.lates) where
  -- a step of the driver's seat that stores no late set
  pub ticks_stay : (d : DriverPhase) (x : DriverView) → g.lead.drive ≡ d → is_looking x.drive ≡ is_looking d
      → x.checked ≡ g.lead.checked → x.cycle ≡ g.lead.cycle → x.lates ≡ g.lead.lates → stored_ticks g.past x g.late ≡ x.lates
  ticks_stay d x is looking checked cycle lates = let same = looking ∙ sym (ap is_looking is) in
      (λ i. filter is_tick g.past ++ cond (checked i && not (same i)) (Tick (cycle i) g.late ∷ []) []) ∙ old ∙ sym lates

  -- where none of the cycle's is stored
  pub ticks_past : (g.lead.checked && not (is_looking g.lead.drive)) ≡ false → filter is_tick g.past ≡ g.lead.lates
  ticks_past none = sym (append-nil (filter is_tick g.past))
      ∙ ap (λ b. filter is_tick g.past ++ cond b (Tick g.lead.cycle g.late ∷ []) []) (sym none) ∙ old

  pub none_looking : is_looking g.lead.drive ≡ true → (g.lead.checked && not (is_looking g.lead.drive)) ≡ false
  none_looking e = ap (λ b. g.lead.checked && not b) e ∙ and_false g.lead.checked

  pub none_checked : g.lead.checked ≡ false → (g.lead.checked && not (is_looking g.lead.drive)) ≡ false
  none_checked e = ap (λ b. b && not (is_looking g.lead.drive)) e

  -- the cycle ends: its Tick is one of the past
  pub ticks_end : (all : List Event) → is_looking g.lead.drive ≡ false → All (IsSoFar p g.lead.cycle g.late) g.inside
      → count_by is_tick g.inside ≡ cond g.lead.checked 1 0
      → all ≡ Begin g.lead.cycle ∷ (g.inside ++ End g.lead.cycle ∷ []) → filter is_tick (g.past ++ all) ++ [] ≡ g.lead.lates
  ticks_end all looking only count is = let c : ℕ = g.lead.cycle in let one : List Event = Tick c g.late ∷ [] in
      append-nil (filter is_tick (g.past ++ all)) ∙ filter-append is_tick g.past all
      ∙ ap (λ xs. filter is_tick g.past ++ filter is_tick xs) is
      ∙ ap (λ xs. filter is_tick g.past ++ xs) (filter-append is_tick g.inside (End c ∷ []) ∙ append-nil (filter is_tick g.inside)
      ∙ one_tick p c g.late g.inside g.lead.checked only count
      ∙ ap (λ b. cond b one []) (sym (and_true g.lead.checked) ∙ ap (λ b. g.lead.checked && not b) (sym looking))) ∙ old
