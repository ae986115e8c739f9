-- Laws of pw_graph's `specs/working/HistoryFronts.antt`: a row of events is cut after its first
-- End, and fronts follow one another.
use Rattle.std.proofs.Common.{◌≡◌, ℕ, ◌+◌, ◌<◌, ◌≤◌, Bool, true, false, cond, not, List, [], ◌∷◌, ◌++◌, map, length, get_or}
use Rattle.std.proofs.Common.{take, drop, refl, sym, ap, subst, ◌∙◌, arith, ltb, Some, None, append_assoc, append-nil, length-append}
use Rattle.std.specs.Prelude.{◌==◌, IsTrue, All, ◌↔◌, MatchOption}
use Rattle.std.specs.List.{position, position_or_len, flat_map, AllZip}
use Rattle.std.proofs.lemmas.List.{nil_from_length, take_at, drop_at, take-append-drop, take_more, map-append}
use Rattle.std.proofs.lemmas.List.Elements.{All-head, All-tail}
use Rattle.std.proofs.lemmas.List.FromFn.{map-range_with_len_more, take-map-range_with_len}
use Rattle.std.proofs.lemmas.Bool.{ltb-false}
use Rattle.std.proofs.lemmas.Bool.Decides.{Decides-ltb, Decides-eqb}
use Rattle.std.proofs.lemmas.List.Sums.{prefix_len-le-length}
use Rattle.std.proofs.lemmas.Grind.{flat_map-append}
use Rattle.pw_graph.specs.declared.event.Event.{Event}
use Rattle.pw_graph.specs.declared.event.Event.TheVariants.{Begin, Start, Finish, Tick, End}
use Rattle.pw_graph.specs.declared.plan.Epoch.{Epoch}
use Rattle.pw_graph.specs.declared.shape.Shape.{Shape}
use Rattle.pw_graph.specs.History.{IsOfCycle, IsLegalCycle, AreJoined, epoch_cycles, cycles_of, IsLegalHistory}
use Rattle.pw_graph.specs.working.HistoryFronts.{is_end, LeavesOver, IsNoFront}

-- no End is inside a legal cycle
no_end : (shape : Shape) (events : List Event) (cycle : ℕ) (e : Event) → IsOfCycle shape events cycle e → is_end e ≡ false
no_end shape events cycle (Begin c) h = absurd h
no_end shape events cycle (Start c n) h = refl
no_end shape events cycle (Finish c n) h = refl
no_end shape events cycle (Tick c late) h = refl
no_end shape events cycle (End c) h = absurd h

end_after : (inside rest : List Event) (c : ℕ) → All (λ e. is_end e ≡ false) inside
    → position_or_len is_end ((inside ++ End c ∷ []) ++ rest) ≡ length inside
end_after [] rest c none = refl
end_after (x ∷ xs) rest c none =
    let here : is_end x ≡ false = All-head (λ e. is_end e ≡ false) x xs none in
    let more : position_or_len is_end ((xs ++ End c ∷ []) ++ rest) ≡ length xs =
    end_after xs rest c (All-tail (λ e. is_end e ≡ false) x xs none) in
    rw here (omega arith)

-- the first End of a row that a legal part begins is the part's last event
end_of_part : (shape : Shape) (cycle : ℕ) (part rest : List Event) → IsLegalCycle shape cycle part
    → length part ≡ position_or_len is_end (part ++ rest) + 1
end_of_part shape cycle part rest h =
    let inside : List Event = h.0 in
    let at : position_or_len is_end ((inside ++ End cycle ∷ []) ++ rest) ≡ length inside =
    end_after inside rest cycle (λ k d lt. no_end shape inside cycle _ (h.2.only k d lt)) in
    let long : length (inside ++ End cycle ∷ []) ≡ length inside + 1 = length-append inside (End cycle ∷ []) in
    subst (λ p. length p ≡ position_or_len is_end (p ++ rest) + 1) (sym h.1) (omega arith)

-- where a test passes first, if it does
position_cases : (b : Bool) (p n : ℕ) → p ≤ n → ltb p n ≡ b → MatchOption (cond b (Some p) None) (p ≡ n) (λ k. (k < n) × (k ≡ p))
position_cases true p n le e = ((Decides-ltb p n).0 e, refl)
position_cases false p n le e = let ge : n ≤ p = ltb-false p n e in omega arith

first_end : (es : List Event) → MatchOption (position is_end es) (position_or_len is_end es ≡ length es)
    (λ k. (k < length es) × (k ≡ position_or_len is_end es))
first_end es = position_cases (ltb (position_or_len is_end es) (length es)) (position_or_len is_end es) (length es)
    (prefix_len-le-length (λ e. not (is_end e)) es) refl

pub end_found : (es : List Event) (n : ℕ) → Some n ≡ position is_end es → n ≡ position_or_len is_end es
end_found es n e = (subst (λ o. MatchOption o (position_or_len is_end es ≡ length es)
    (λ k. (k < length es) × (k ≡ position_or_len is_end es))) (sym e) (first_end es)).1

pub end_missing : (es : List Event) → None ≡ position is_end es → position_or_len is_end es ≡ length es
end_missing es e = subst (λ o. MatchOption o (position_or_len is_end es ≡ length es)
    (λ k. (k < length es) × (k ≡ position_or_len is_end es))) (sym e) (first_end es)

-- the first of joined parts, and what follows it
record Cut (shape : Shape) (cycle : ℕ) (more : List (Shape × ℕ)) (es : List Event) : Type 0 where
  part : List Event
  rest : List Event
  whole : es ≡ part ++ rest
  legal : IsLegalCycle shape cycle part
  others : AreJoined more rest

cut_parts : (shape : Shape) (cycle : ℕ) (more : List (Shape × ℕ)) (es : List Event) (parts : List (List Event))
    → es ≡ flat_map (λ p. p) parts
    → AllZip (λ c part. IsLegalCycle c.0 c.1 part) ((shape, cycle) ∷ more) parts → Cut shape cycle more es
cut_parts shape cycle more es [] e h = absurd h
cut_parts shape cycle more es (p ∷ ps) e h =
    record { part = p; rest = flat_map (λ q. q) ps; whole = e; legal = h.0; others = record { parts = ps; joined = refl; legal = h.1 } }

cut : (shape : Shape) (cycle : ℕ) (more : List (Shape × ℕ)) (es : List Event) → AreJoined ((shape, cycle) ∷ more) es
    → Cut shape cycle more es
cut shape cycle more es h = cut_parts shape cycle more es h.parts h.joined h.legal

module _ (shape : Shape) (cycle : ℕ) (es : List Event) where
  end : ℕ
  end = position_or_len is_end es

  cut_at : (more : List (Shape × ℕ)) → (h : Cut shape cycle more es) → length h.part ≡ position_or_len is_end es + 1
  cut_at more h = subst (λ l. length h.part ≡ position_or_len is_end l + 1) (sym h.whole) (end_of_part shape cycle h.part h.rest h.legal)

  -- a part that ends with the first End
  pub front_is : (n : ℕ) → n ≡ position_or_len is_end es → IsLegalCycle shape cycle (take (n + 1) es)
      → LeavesOver ((shape, cycle) ∷ []) es (drop (n + 1) es)
  front_is n at legal = record {
    same = λ more. (
      λ h. let c = cut shape cycle more es h in
          let long : length c.part ≡ n + 1 = cut_at more c ∙ ap (λ k. k + 1) (sym at) in
          let left : drop (n + 1) es ≡ c.rest = ap (drop (n + 1)) c.whole ∙ drop_at c.part c.rest (n + 1) long in
          subst (AreJoined more) (sym left) c.others,
      λ h. record {
        parts = take (n + 1) es ∷ h.parts;
        joined = sym (take-append-drop (n + 1) es) ∙ ap (λ l. take (n + 1) es ++ l) h.joined;
        legal = (legal, h.legal);
      },
    );
  }

  pub front_is_not : (n : ℕ) → n ≡ position_or_len is_end es → ¬ IsLegalCycle shape cycle (take (n + 1) es)
      → IsNoFront ((shape, cycle) ∷ []) es
  front_is_not n at illegal = record {
    never = λ more h. let c = cut shape cycle more es h in
        let long : length c.part ≡ n + 1 = cut_at more c ∙ ap (λ k. k + 1) (sym at) in
        let first : take (n + 1) es ≡ c.part = ap (take (n + 1)) c.whole ∙ take_at c.part c.rest (n + 1) long in
        illegal (subst (IsLegalCycle shape cycle) (sym first) c.legal);
  }

  pub front_wants_end : position_or_len is_end es ≡ length es → IsNoFront ((shape, cycle) ∷ []) es
  front_wants_end none = record {
    never = λ more h. let c = cut shape cycle more es h in
        let long : length c.part ≡ position_or_len is_end es + 1 = cut_at more c in
        let whole : length es ≡ length c.part + length c.rest = ap length c.whole ∙ length-append c.part c.rest in
        absurd (omega arith);
  }

-- no cycles leave all events
pub front_none : (es : List Event) → LeavesOver [] es es
front_none es = record { same = λ more. (λ h. h, λ h. h) }

module _ (front next : List (Shape × ℕ)) (es mid : List Event) (h : LeavesOver front es mid) where
  -- a front, and another one in what it leaves
  pub front_more : (rest : List Event) → LeavesOver next mid rest → LeavesOver (front ++ next) es rest
  front_more rest g = record {
    same = λ more. (
      λ j. (g.same more).0 ((h.same (next ++ more)).0 (subst (λ cs. AreJoined cs es) (append_assoc front next more) j)),
      λ j. subst (λ cs. AreJoined cs es) (sym (append_assoc front next more)) ((h.same (next ++ more)).1 ((g.same more).1 j)),
    );
  }

  pub front_stops : IsNoFront next mid → IsNoFront (front ++ next) es
  front_stops g = record {
    never = λ more j. g.never more
        ((h.same (next ++ more)).0 (subst (λ cs. AreJoined cs es) (append_assoc front next more) j));
  }

-- what is no front is the beginning of no longer one
pub no_front_more : (front next : List (Shape × ℕ)) (es : List Event) → IsNoFront front es → IsNoFront (front ++ next) es
no_front_more front next es h = record {
  never = λ more j. h.never (next ++ more)
      (subst (λ cs. AreJoined cs es) (append_assoc front next more) j);
}

-- one cycle more of an epoch
module _ (shape : Shape) (k cycle : ℕ) (es rest : List Event) (at : cycle ≡ shape.first + k)
    (h : LeavesOver (epoch_cycles shape k) es rest) where
  one_more : epoch_cycles shape (k + 1) ≡ epoch_cycles shape k ++ (shape, cycle) ∷ []
  one_more = map-range_with_len_more {X = Shape × ℕ} (λ c. (shape, c)) shape.first k cycle (sym at)

  pub epoch_more : (next : List Event) → LeavesOver ((shape, cycle) ∷ []) rest next → LeavesOver (epoch_cycles shape (k + 1)) es next
  epoch_more next g = subst (λ cs. LeavesOver cs es next) (sym one_more)
      (front_more (epoch_cycles shape k) ((shape, cycle) ∷ []) es rest h next g)

  pub epoch_stops : k < shape.cycles → IsNoFront ((shape, cycle) ∷ []) rest → IsNoFront (epoch_cycles shape shape.cycles) es
  epoch_stops lt g =
      let all : List (Shape × ℕ) = epoch_cycles shape shape.cycles in
      let stopped : IsNoFront (epoch_cycles shape (k + 1)) es =
      subst (λ cs. IsNoFront cs es) (sym one_more) (front_stops (epoch_cycles shape k) ((shape, cycle) ∷ []) es rest h g) in
      let begun : take (k + 1) all ≡ epoch_cycles shape (k + 1) =
      take-map-range_with_len {X = Shape × ℕ} (λ c. (shape, c)) shape.first shape.cycles (k + 1) (omega arith) in
      subst (λ cs. IsNoFront cs es) (ap (λ cs. cs ++ drop (k + 1) all) (sym begun) ∙ take-append-drop (k + 1) all)
      (no_front_more (epoch_cycles shape (k + 1)) (drop (k + 1) all) es stopped)

-- one epoch more of a history
module _ (epochs : List Epoch) (i : ℕ) (e : Epoch) (es rest : List Event) (lt : i < length epochs) (is : e ≡ get_or epochs i e)
    (h : LeavesOver (cycles_of (map (λ e. e.shape) (take i epochs))) es rest) where
  abbrev of_epochs : List Epoch → List (Shape × ℕ)
  of_epochs es = cycles_of (map (λ e. e.shape) es)

  of_epochs-append : (xs ys : List Epoch) → of_epochs (xs ++ ys) ≡ of_epochs xs ++ of_epochs ys
  of_epochs-append xs ys = ap cycles_of (map-append (λ e. e.shape) xs ys)
      ∙ flat_map-append (λ s. epoch_cycles s s.cycles) (map (λ e. e.shape) xs) (map (λ e. e.shape) ys)

  next_epoch : of_epochs (take (i + 1) epochs) ≡ of_epochs (take i epochs) ++ epoch_cycles e.shape e.shape.cycles
  next_epoch = ap of_epochs (take_more epochs i e lt ∙ ap (λ x. take i epochs ++ x ∷ []) (sym is))
      ∙ of_epochs-append (take i epochs) (e ∷ [])
      ∙ ap (λ cs. of_epochs (take i epochs) ++ cs) (append-nil (epoch_cycles e.shape e.shape.cycles))

  pub history_more : (next : List Event) → LeavesOver (epoch_cycles e.shape e.shape.cycles) rest next
      → LeavesOver (cycles_of (map (λ e. e.shape) (take (i + 1) epochs))) es next
  history_more next g = subst (λ cs. LeavesOver cs es next) (sym next_epoch)
      (front_more (of_epochs (take i epochs)) (epoch_cycles e.shape e.shape.cycles) es rest h next g)

  pub history_stops : IsNoFront (epoch_cycles e.shape e.shape.cycles) rest → ¬ IsLegalHistory (map (λ e. e.shape) epochs) es
  history_stops g legal =
      let stopped : IsNoFront (of_epochs (take (i + 1) epochs)) es =
      subst (λ cs. IsNoFront cs es) (sym next_epoch) (front_stops (of_epochs (take i epochs))
      (epoch_cycles e.shape e.shape.cycles) es rest h g) in
      let whole : of_epochs (take (i + 1) epochs) ++ of_epochs (drop (i + 1) epochs) ≡ of_epochs epochs =
      sym (of_epochs-append (take (i + 1) epochs) (drop (i + 1) epochs)) ∙ ap of_epochs (take-append-drop (i + 1) epochs) in
      stopped.never (of_epochs (drop (i + 1) epochs)) (subst (λ cs. AreJoined cs es) (sym whole) legal)

none_joined : (rest : List Event) (parts : List (List Event)) → rest ≡ flat_map (λ p. p) parts
    → AllZip {A = Shape × ℕ} (λ c part. IsLegalCycle c.0 c.1 part) [] parts → rest ≡ []
none_joined rest [] e h = e
none_joined rest (p ∷ ps) e h = absurd h

-- where all cycles are a front, the history is legal exactly where nothing is left
pub history_decides : (shapes : List Shape) (es rest : List Event) → LeavesOver (cycles_of shapes) es rest
    → IsTrue (length rest == 0) ↔ IsLegalHistory shapes es
history_decides shapes es rest h = (
  λ t. let e : rest ≡ [] = nil_from_length rest ((Decides-eqb (length rest) 0).0 t) in
      subst (λ cs. AreJoined cs es) (append-nil (cycles_of shapes)) ((h.same []).1 (record { parts = []; joined = e; legal = tt })),
  λ legal. let j = (h.same []).0 (subst (λ cs. AreJoined cs es) (sym (append-nil (cycles_of shapes))) legal) in
      (Decides-eqb (length rest) 0).1 (ap length (none_joined rest j.parts j.joined j.legal)),
)
