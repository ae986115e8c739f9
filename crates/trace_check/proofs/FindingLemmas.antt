-- Laws of `specs/Finding.antt`: there is one finding on a trace, and what is printed of a legal history is legal.
use Rattle.std.proofs.Common.{◌≡◌, ℕ, zero, suc, ◌+◌, ◌-◌, ◌%◌, ◌^◌, ◌<◌, ◌≤◌, ◌==◌, inl, inr, Bool, true, false, cond}
use Rattle.std.proofs.Common.{List, [], ◌∷◌, ◌++◌, map, length, get_or, take, Some, decimal, codes, refl, sym, ap, ap₂, ◌∙◌, subst, arith, append_assoc}
use Rattle.std.specs.Prelude.{All, flat_map}
use Rattle.std.specs.List.{AllZip, slice_split, onto_first}
use Rattle.std.proofs.lemmas.Bool.{cases_lt, cases_eq, cases_order, cond-true, cond-false, eq-eqb, ne_eqb}
use Rattle.std.proofs.lemmas.Fmt.{decimal_by_steps, decimal_injective}
use Rattle.std.proofs.lemmas.List.{get_or_past, get_or-take, length-take-le}
use Rattle.std.proofs.lemmas.List.Elements.{All-nil, All-cons, All-head, All-tail, All-append, All-map, All-from_recursion}
use Rattle.std.proofs.lemmas.Slice.Zip.{AllZip-long}
use Rattle.std.proofs.lemmas.List.Splits.{slice_split_at}
use Rattle.pw_graph.specs.declared.event.Event.{Event}
use Rattle.pw_graph.specs.declared.event.Event.TheVariants.{Begin, Start, Finish, Tick, End}
use Rattle.pw_graph.specs.declared.shape.Shape.{Shape}
use Rattle.pw_graph.specs.History.{IsLegalHistory}
use Rattle.cycle_trace.specs.Words.{spaced}
use Rattle.cycle_trace.specs.NodeNames.{node_name}
use Rattle.cycle_trace.specs.EventLines.{event_line, late_nodes}
use Rattle.cycle_trace.specs.working.EventWords.{event_said}
use Rattle.cycle_trace.specs.Printable.{NamesNodes}
use Rattle.cycle_trace.specs.TraceReading.{is_line_feed, without_empty_last, trace_lines, NumbersFit, IsLineOf, IsFirstFault, AreNames}
use Rattle.cycle_trace.proofs.ReadingLemmas.{is_said}
use Rattle.cycle_trace.proofs.TraceReadingLemmas.{line_then}
use Rattle.trace_check.specs.declared.checking.Verdict.{Verdict}
use Rattle.trace_check.specs.declared.checking.Verdict.TheVariants.{Legal, Illegal}
use Rattle.trace_check.specs.declared.trace.Finding.{Finding}
use Rattle.trace_check.specs.declared.trace.Finding.TheVariants.{Line, Events}
use Rattle.trace_check.specs.FirstIllegal.{IsFirstIllegal, IsVerdictOn}
use Rattle.trace_check.specs.Finding.{IsFindingOn, IsPrinted}

module _ {A B : Type 0} (R : A → B → Type 0) where
  zip_at : (xs : List A) (ys : List B) (i : ℕ) (d : A) (e : B) → AllZip R xs ys → i < length xs → R (get_or xs i d) (get_or ys i e)
  zip_at [] ys i d e h lt = absurd (omega arith)
  zip_at (x ∷ xs) [] i d e h lt = absurd h
  zip_at (x ∷ xs) (y ∷ ys) zero d e h lt = h.0
  zip_at (x ∷ xs) (y ∷ ys) (suc i) d e h lt = zip_at xs ys i d e h.1 (omega arith)

-- ONE VERDICT
not_before : (shapes : List Shape) (events : List Event) (a b : ℕ) → IsFirstIllegal shapes events a → IsFirstIllegal shapes events b → ¬ (a < b)
not_before shapes events a b h k lt = elim h.fault [
  | inl f ↦ f.1 (k.before a lt)
  | inr e ↦ elim k.fault [
    | inl g ↦ (let le : b ≤ length events = g.0 in absurd (omega arith))
    | inr d ↦ absurd (omega arith)
  ]
]

pub verdict_one : (shapes : List Shape) (events : List Event) (v w : Verdict) → IsVerdictOn shapes events v → IsVerdictOn shapes events w → v ≡ w
verdict_one shapes events Legal Legal h k = refl
verdict_one shapes events Legal (Illegal b) h k = absurd (k.illegal h)
verdict_one shapes events (Illegal a) Legal h k = absurd (h.illegal k)
verdict_one shapes events (Illegal a) (Illegal b) h k = elim (cases_order a b) [
  | inl e ↦ ap Illegal e
  | inr o ↦ elim o [ inl lt ↦ absurd (not_before shapes events a b h k lt) | inr gt ↦ absurd (not_before shapes events b a k h gt) ]
]

module _ (names : List (List ℕ)) (known : AreNames names) where
  -- ONE EVENT of a line
  event_one : (line : List ℕ) (e d : Event) → IsLineOf names line e → IsLineOf names line d → e ≡ d
  event_one line e d h k =
      let a = is_said names line e known h in
      let b = is_said names line d known k in
      let words : a.first ∷ decimal a.cycle ∷ a.others ≡ b.first ∷ decimal b.cycle ∷ b.others = sym a.words ∙ b.words in
      let first : a.first ≡ b.first = cc in
      let digits : decimal a.cycle ≡ decimal b.cycle = cc in
      let others : a.others ≡ b.others = cc in
      let fa : a.cycle < 2 ^ 32 = a.fits in
      let fb : b.cycle < 2 ^ 32 = b.fits in
      let cycle : a.cycle ≡ b.cycle = decimal_injective a.cycle b.cycle (omega arith) (omega arith) digits in
      let same : Some e ≡ Some d = sym a.said ∙ (λ i. event_said names (first i) (cycle i) (others i)) ∙ b.said in
      cc

  events_one : (lines : List (List ℕ)) (es ds : List Event) → AllZip (IsLineOf names) lines es → AllZip (IsLineOf names) lines ds → es ≡ ds
  events_one [] [] [] h k = refl
  events_one [] [] (d ∷ ds) h k = absurd k
  events_one [] (e ∷ es) ds h k = absurd h
  events_one (l ∷ lines) [] ds h k = absurd h
  events_one (l ∷ lines) (e ∷ es) [] h k = absurd k
  events_one (l ∷ lines) (e ∷ es) (d ∷ ds) h k = ap₂ (λ x xs. x ∷ xs) (event_one l e d h.0 k.0) (events_one lines es ds h.1 k.1)

  -- a line that is read is no fault
  fault_behind : (lines : List (List ℕ)) (n m : ℕ) → IsFirstFault names lines n → IsFirstFault names lines m → ¬ (n < m)
  fault_behind lines n m h k lt =
      let counted : 1 ≤ n = h.counted in
      let there : m ≤ length lines = k.there in
      let front : length (take (m - 1) lines) ≡ m - 1 = length-take-le (m - 1) lines (omega arith) in
      let short : n - 1 < m - 1 = omega arith in
      let told = zip_at (IsLineOf names) (take (m - 1) lines) k.before (n - 1) [] (Begin 0) k.told (omega arith) in
      h.fault (get_or k.before (n - 1) (Begin 0)) (subst (λ l. IsLineOf names l (get_or k.before (n - 1) (Begin 0))) (get_or-take (m - 1) lines (n - 1) [] short) told)

  no_fault : (lines : List (List ℕ)) (n : ℕ) (es : List Event) → IsFirstFault names lines n → ¬ AllZip (IsLineOf names) lines es
  no_fault lines n es h all =
      let counted : 1 ≤ n = h.counted in
      let there : n ≤ length lines = h.there in
      h.fault (get_or es (n - 1) (Begin 0)) (zip_at (IsLineOf names) lines es (n - 1) [] (Begin 0) all (omega arith))

  -- ONE FINDING
  pub finding_one : (shapes : List Shape) (bytes : List ℕ) (f g : Finding) → IsFindingOn names shapes bytes f → IsFindingOn names shapes bytes g → f ≡ g
  finding_one shapes bytes (Line n) (Line m) h k = elim (cases_order n m) [
    | inl e ↦ ap Line e
    | inr o ↦ elim o [ inl lt ↦ absurd (fault_behind (trace_lines bytes) n m h k lt) | inr gt ↦ absurd (fault_behind (trace_lines bytes) m n k h gt) ]
  ]
  finding_one shapes bytes (Line n) (Events w) h k = absurd (no_fault (trace_lines bytes) n k.0 h k.1)
  finding_one shapes bytes (Events v) (Line m) h k = absurd (no_fault (trace_lines bytes) m h.0 k h.1)
  finding_one shapes bytes (Events v) (Events w) h k =
      let same = events_one (trace_lines bytes) h.0 k.0 h.1 k.1 in
      ap Events (verdict_one shapes k.0 v w (subst (λ es. IsVerdictOn shapes es v) same h.2) k.2)

-- a text has no more lines than bytes
one_at_most : (b : Bool) (piece : List ℕ) → length (cond b [] (piece ∷ [])) ≤ 1
one_at_most true piece = omega arith
one_at_most false piece = omega arith

lines_by : (b : Bool) (x : ℕ) (xs : List ℕ) (pieces : List (List ℕ)) → 0 < length pieces → length (without_empty_last pieces) ≤ length xs
    → length (without_empty_last (cond b ([] ∷ pieces) (onto_first x pieces))) ≤ suc (length xs)
lines_by true x xs [] some few = absurd (omega arith)
lines_by true x xs (p ∷ ps) some few = omega arith
lines_by false x xs [] some few = absurd (omega arith)
lines_by false x xs (p ∷ []) some few = let one = one_at_most (length (x ∷ p) == 0) (x ∷ p) in omega arith
lines_by false x xs (p ∷ (q ∷ ps)) some few = omega arith

some_by : (b : Bool) (x : ℕ) (pieces : List (List ℕ)) → 0 < length (cond b ([] ∷ pieces) (onto_first x pieces))
some_by true x pieces = omega arith
some_by false x [] = omega arith
some_by false x (p ∷ ps) = omega arith

some_pieces : (bytes : List ℕ) → 0 < length (slice_split is_line_feed bytes)
some_pieces [] = omega arith
some_pieces (b ∷ bytes) = some_by (is_line_feed b) b (slice_split is_line_feed bytes)

pub few_lines : (bytes : List ℕ) → length (trace_lines bytes) ≤ length bytes
few_lines [] = omega arith
few_lines (b ∷ bytes) = lines_by (is_line_feed b) b bytes (slice_split is_line_feed bytes) (some_pieces bytes) (few_lines bytes)

pub few_events : (names : List (List ℕ)) (bytes : List ℕ) (events : List Event) → AllZip (IsLineOf names) (trace_lines bytes) events → length events ≤ length bytes
few_events names bytes events h = let same = AllZip-long (IsLineOf names) (trace_lines bytes) events h in let few = few_lines bytes in omega arith

-- words in which no line ends
abbrev IsWhole : List ℕ → Type 0
IsWhole word = All (λ b. is_line_feed b ≡ false) word

whole_digit : (d : ℕ) → IsWhole ((48 + d) ∷ [])
whole_digit d = All-cons (λ b. is_line_feed b ≡ false) (48 + d) [] (ne_eqb (48 + d) 10 (λ e. omega (arith, e))) (All-nil (λ b. is_line_feed b ≡ false))

whole_decimal : (n : ℕ) → n < 2 ^ 64 → IsWhole (decimal n)
whole_decimal n h = decimal_by_steps (λ n ds. IsWhole ds) (λ n lt. whole_digit n)
    (λ n ds ge more. All-append (λ b. is_line_feed b ≡ false) ds ((48 + n % 10) ∷ []) more (whole_digit (n % 10))) n h

whole_name : (names : List (List ℕ)) → All IsWhole names → (n : ℕ) → IsWhole (node_name names n)
whole_name names all n = elim (cases_eq n 63) [
  | inl e ↦ subst IsWhole (sym (cond-true (n == 63) (codes "dummy") (get_or names n []) (eq-eqb n 63 e)))
      (All-from_recursion (λ b. is_line_feed b ≡ false) (codes "dummy") (refl, (refl, (refl, (refl, (refl, tt))))))
  | inr ne ↦ subst IsWhole (sym (cond-false (n == 63) (codes "dummy") (get_or names n []) (ne_eqb n 63 ne))) (elim (cases_lt n (length names)) [
    | inl lt ↦ all n [] lt
    | inr ge ↦ subst IsWhole (sym (get_or_past names n [] ge)) (All-nil (λ b. is_line_feed b ≡ false))
  ])
]

whole_spaced : (words : List (List ℕ)) → All IsWhole words → IsWhole (spaced words)
whole_spaced [] all = All-nil (λ b. is_line_feed b ≡ false)
whole_spaced (w ∷ words) all = All-append (λ b. is_line_feed b ≡ false) (32 ∷ w) (spaced words)
    (All-cons (λ b. is_line_feed b ≡ false) 32 w refl (All-head IsWhole w words all)) (whole_spaced words (All-tail IsWhole w words all))

-- an event's line: one line, and its end
record IsTold (names : List (List ℕ)) (e : Event) : Type 0 where
  line : List ℕ
  whole : IsWhole line
  told : event_line names e ≡ line ++ 10 ∷ []

told_by : (names : List (List ℕ)) (e : Event) (first : List ℕ) (others : List (List ℕ)) → IsWhole first → All IsWhole others
    → event_line names e ≡ (first ++ spaced others) ++ 10 ∷ [] → IsTold names e
told_by names e first others f o is = record {
  line = first ++ spaced others;
  whole = All-append (λ b. is_line_feed b ≡ false) first (spaced others) f (whole_spaced others o);
  told = is;
}

one_word : (word : List ℕ) → IsWhole word → All IsWhole (word ∷ [])
one_word word h = All-cons IsWhole word [] h (All-nil IsWhole)

event_told : (names : List (List ℕ)) → All IsWhole names → (e : Event) → NumbersFit e → IsTold names e
event_told names all (Begin c) fits = told_by names (Begin c) (codes "begin") (decimal c ∷ [])
    (All-from_recursion (λ b. is_line_feed b ≡ false) (codes "begin") (refl, (refl, (refl, (refl, (refl, tt))))))
    (one_word (decimal c) (whole_decimal c (omega (arith, fits)))) refl
event_told names all (Start c n) fits = told_by names (Start c n) (codes "start") (decimal c ∷ node_name names n ∷ [])
    (All-from_recursion (λ b. is_line_feed b ≡ false) (codes "start") (refl, (refl, (refl, (refl, (refl, tt))))))
    (All-cons IsWhole (decimal c) (node_name names n ∷ []) (whole_decimal c (omega (arith, fits))) (one_word (node_name names n) (whole_name names all n))) refl
event_told names all (Finish c n) fits = told_by names (Finish c n) (codes "finish") (decimal c ∷ node_name names n ∷ [])
    (All-from_recursion (λ b. is_line_feed b ≡ false) (codes "finish") (refl, (refl, (refl, (refl, (refl, (refl, tt)))))))
    (All-cons IsWhole (decimal c) (node_name names n ∷ []) (whole_decimal c (omega (arith, fits))) (one_word (node_name names n) (whole_name names all n))) refl
event_told names all (Tick c late) fits = told_by names (Tick c late) (codes "tick") (decimal c ∷ map (node_name names) (late_nodes late))
    (All-from_recursion (λ b. is_line_feed b ≡ false) (codes "tick") (refl, (refl, (refl, (refl, tt)))))
    (All-cons IsWhole (decimal c) (map (node_name names) (late_nodes late)) (whole_decimal c (let fit : c < 2 ^ 32 = fits.0 in omega arith))
    (All-map IsWhole (node_name names) (late_nodes late) (λ k d lt. whole_name names all (get_or (late_nodes late) k d)))) refl
event_told names all (End c) fits = told_by names (End c) (codes "end") (decimal c ∷ [])
    (All-from_recursion (λ b. is_line_feed b ≡ false) (codes "end") (refl, (refl, (refl, tt))))
    (one_word (decimal c) (whole_decimal c (omega (arith, fits)))) refl

-- what is printed is read back
printed_lines : (names : List (List ℕ)) → All IsWhole names → (history : List Event) → All NumbersFit history → All (NamesNodes names) history
    → AllZip (IsLineOf names) (trace_lines (flat_map (event_line names) history)) history
printed_lines names all [] fits named = tt
printed_lines names all (e ∷ es) fits named =
    let fit = All-head NumbersFit e es fits in
    let told = event_told names all e fit in
    let more : List ℕ = flat_map (event_line names) es in
    let text : event_line names e ++ more ≡ told.line ++ 10 ∷ more = ap (λ l. l ++ more) told.told ∙ append_assoc told.line (10 ∷ []) more in
    let lines : trace_lines (told.line ++ 10 ∷ more) ≡ told.line ∷ trace_lines more =
    line_then (told.line ++ 10 ∷ more) told.line more (slice_split_at is_line_feed told.line 10 more told.whole refl) in
    let rest = printed_lines names all es (All-tail NumbersFit e es fits) (All-tail (NamesNodes names) e es named) in
    let here : IsLineOf names told.line e = record { fits = fit; named = All-head (NamesNodes names) e es named; told = sym told.told } in
    subst (λ ls. AllZip (IsLineOf names) ls (e ∷ es)) (sym (ap trace_lines text ∙ lines)) (here, rest)

pub printed_is_legal : (names : List (List ℕ)) (shapes : List Shape) (history : List Event) (bytes : List ℕ) → IsLegalHistory shapes history
    → IsPrinted names history bytes → IsFindingOn names shapes bytes (Events Legal)
printed_is_legal names shapes history bytes legal p =
    (history, subst (λ bs. AllZip (IsLineOf names) (trace_lines bs) history) (sym p.told) (printed_lines names p.whole history p.fits p.named), legal)
