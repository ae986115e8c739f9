-- Lines that are read one after the other.
use Rattle.std.proofs.Common.{◌≡◌, ℕ, ◌+◌, ◌-◌, ◌<◌, List, [], ◌∷◌, ◌++◌, ◌==◌, length, take, get_or, refl, ap, sym}
use Rattle.std.proofs.Common.{◌∙◌, subst, arith, append_assoc, append-nil, length-append}
use Rattle.std.specs.List.{AllZip, slice_split}
use Rattle.std.proofs.lemmas.List.{take-append-le, take_all, get_or-append_right}
use Rattle.std.proofs.lemmas.Slice.Zip.{all_zipped_more, AllZip-long}
use Rattle.std.proofs.lemmas.Bool.{cond-true, cond-false, eq-eqb, ne_eqb}
use Rattle.pw_graph.specs.declared.event.Event.{Event}
use Rattle.cycle_trace.specs.TraceReading.{is_line_feed, without_empty_last, trace_lines, IsLineOf, IsNoLine, IsFirstFault}
use Rattle.pw_lists.proofs.PieceLemmas.{first_piece}

-- the lines in front of a rest, and the events that they are the lines of
pub record AreRead (names : List (List ℕ)) (bytes rest : List ℕ) (events : List Event) : Type 0 where
  pub front : List (List ℕ)
  pub lines : trace_lines bytes ≡ front ++ trace_lines rest
  pub told : AllZip (IsLineOf names) front events

pub none_read : (names : List (List ℕ)) (bytes : List ℕ) → AreRead names bytes bytes []
none_read names bytes = record { front = []; lines = refl; told = tt }

-- a line that more text follows
pub line_then : (rest line more : List ℕ) → slice_split is_line_feed rest ≡ line ∷ slice_split is_line_feed more
    → trace_lines rest ≡ line ∷ trace_lines more
line_then rest line more cut =
    let next = first_piece is_line_feed more in
    ap without_empty_last cut ∙ ap (λ pieces. without_empty_last (line ∷ pieces)) next
    ∙ ap (λ pieces. line ∷ without_empty_last pieces) (sym next)

-- a last line, and a last piece that is empty
pub line_last : (rest line : List ℕ) → slice_split is_line_feed rest ≡ line ∷ [] → (length line ≡ 0 → ⊥) → trace_lines rest ≡ line ∷ []
line_last rest line cut some = ap without_empty_last cut ∙ cond-false (length line == 0) [] (line ∷ []) (ne_eqb (length line) 0 some)

pub line_none : (rest line : List ℕ) → slice_split is_line_feed rest ≡ line ∷ [] → length line ≡ 0 → trace_lines rest ≡ []
line_none rest line cut none = ap without_empty_last cut ∙ cond-true (length line == 0) [] (line ∷ []) (eq-eqb (length line) 0 none)

-- a text whose last line is not empty is not empty
pub some_text : (text line : List ℕ) → slice_split is_line_feed text ≡ line ∷ [] → (length line ≡ 0 → ⊥) → 0 < length text
some_text [] line cut some = let e : [] ≡ line = cc in absurd (some (ap length (sym e)))
some_text (b ∷ bs) line cut some = omega arith

-- one line more is read
pub read_more : (names : List (List ℕ)) (bytes rest line more : List ℕ) (events later : List Event) (event : Event)
    → AreRead names bytes rest events → trace_lines rest ≡ line ∷ trace_lines more
    → IsLineOf names line event → later ≡ events ++ event ∷ [] → AreRead names bytes more later
read_more names bytes rest line more events later event r cut h e = subst (AreRead names bytes more) (sym e) (record {
  front = r.front ++ line ∷ [];
  lines = r.lines ∙ ap (λ t. r.front ++ t) cut ∙ sym (append_assoc r.front (line ∷ []) (trace_lines more));
  told = all_zipped_more (IsLineOf names) r.front events line event r.told h;
})

-- all lines are read
pub read_all : (names : List (List ℕ)) (bytes rest : List ℕ) (events : List Event) → AreRead names bytes rest events → trace_lines rest ≡ []
    → AllZip (IsLineOf names) (trace_lines bytes) events
read_all names bytes rest events r none =
    let whole : trace_lines bytes ≡ r.front = r.lines ∙ ap (λ t. r.front ++ t) none ∙ append-nil r.front in
    subst (λ ls. AllZip (IsLineOf names) ls events) (sym whole) r.told

-- the first line that is no event
pub first_fault : (names : List (List ℕ)) (bytes rest line : List ℕ) (others : List (List ℕ)) (events : List Event) (number : ℕ)
    → AreRead names bytes rest events → trace_lines rest ≡ line ∷ others
    → IsNoLine names line → number ≡ length events + 1 → IsFirstFault names (trace_lines bytes) number
first_fault names bytes rest line others events number r cut none is =
    let whole : trace_lines bytes ≡ r.front ++ line ∷ others = r.lines ∙ ap (λ t. r.front ++ t) cut in
    let long : length r.front ≡ length events = sym (AllZip-long (IsLineOf names) r.front events r.told) in
    let at : number - 1 ≡ length r.front = omega (arith, long) in
    let front : take (number - 1) (trace_lines bytes) ≡ r.front =
    ap (take (number - 1)) whole ∙ take-append-le (number - 1) r.front (line ∷ others) (omega (arith, at))
    ∙ take_all (number - 1) r.front (omega (arith, at)) in
    let zero_at : (number - 1) - length r.front ≡ 0 = omega (arith, at) in
    let here : get_or (trace_lines bytes) (number - 1) [] ≡ line =
    ap (λ ls. get_or ls (number - 1) []) whole ∙ get_or-append_right r.front (line ∷ others) (length r.front) (number - 1) [] refl
    (omega (arith, at)) ∙ ap (λ k. get_or (line ∷ others) k []) zero_at in
    record {
      counted = omega (arith, is);
      there = omega (arith, long, ap length whole, length-append r.front (line ∷ others));
      before = events;
      told = subst (λ ls. AllZip (IsLineOf names) ls events) (sym front) r.told;
      fault = subst (IsNoLine names) (sym here) none;
    }
