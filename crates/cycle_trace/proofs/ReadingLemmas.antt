-- What is said of an event's words: the event itself.
use Rattle.std.proofs.Common.{◌≡◌, ◌≢◌, ℕ, zero, suc, ◌+◌, ◌*◌, ◌/◌, ◌%◌, ◌^◌, ◌<◌, ◌≤◌, ◌==◌, nat_lt, Bool}
use Rattle.std.proofs.Common.{true, false, cond, List, [], ◌∷◌, ◌++◌, length, map, filter, get_or, All, option_map, Some, None, decimal}
use Rattle.std.proofs.Common.{codes, refl, ap, sym, ◌∙◌, subst, arith, ⊎_elim, pow_mono}
use Rattle.std.specs.Prelude.{AllPairs, position, bytes_eq}
use Rattle.std.specs.List.{slice_split, range_with_len, position_or_len}
use Rattle.std.proofs.lemmas.List.{append_cancel_right}
use Rattle.std.proofs.lemmas.List.Elements.{All-cons, All-nil, All-append, All-from_recursion}
use Rattle.std.proofs.lemmas.List.Sums.{position_or_len_is}
use Rattle.std.proofs.lemmas.Bool.{cases_Bool, cases_eq, cond-true, cond-false, eqb-true, eq-eqb, ne_eqb, lt-ltb, false_from_ne_true}
use Rattle.std.proofs.lemmas.Slice.Eq.{bytes_eq-Decides}
use Rattle.std.proofs.lemmas.Fmt.{decimal_by_steps}
use Rattle.std.proofs.lemmas.Nat.{mod-pow-add, mod_below}
use Rattle.pw_graph.specs.declared.event.Event.{Event}
use Rattle.pw_graph.specs.declared.event.Event.TheVariants.{Begin, Start, Finish, Tick, End}
use Rattle.cycle_trace.specs.NodeNames.{node_name}
use Rattle.cycle_trace.specs.Words.{spaced, line}
use Rattle.cycle_trace.specs.EventLines.{late_nodes}
use Rattle.cycle_trace.specs.Printable.{IsNode}
use Rattle.cycle_trace.specs.working.EventWords.{node_said, late_said, event_said}
use Rattle.cycle_trace.specs.TraceReading.{is_space, IsLineOf, AreNames}
use Rattle.cycle_trace.proofs.SpacedLemmas.{IsWord, words_split}

-- a number has no space
digit_word : (d : ℕ) → IsWord ((48 + d) ∷ [])
digit_word d = All-cons (λ b. is_space b ≡ false) (48 + d) [] (ne_eqb (48 + d) 32 (λ e. omega (arith, e)))
    (All-nil (λ b. is_space b ≡ false))

pub decimal_word : (n : ℕ) → n < 2 ^ 64 → IsWord (decimal n)
decimal_word n h = decimal_by_steps (λ n ds. IsWord ds) (λ n lt. digit_word n)
    (λ n ds ge more. All-append (λ b. is_space b ≡ false) ds ((48 + n % 10) ∷ []) more (digit_word (n % 10))) n h

-- the name of a node that has one
name_is : (names : List (List ℕ)) (n : ℕ) → n ≢ 63 → node_name names n ≡ get_or names n []
name_is names n ne = cond-false (n == 63) (codes "dummy") (get_or names n []) (ne_eqb n 63 ne)

dummy_is : (names : List (List ℕ)) (n : ℕ) → n ≡ 63 → node_name names n ≡ codes "dummy"
dummy_is names n e = cond-true (n == 63) (codes "dummy") (get_or names n []) (eq-eqb n 63 e)

dummy_word : IsWord (codes "dummy")
dummy_word = All-from_recursion (λ b. is_space b ≡ false) (codes "dummy") (refl, (refl, (refl, (refl, (refl, tt)))))

pub name_word : (names : List (List ℕ)) → AreNames names → (n : ℕ) → IsNode names n → IsWord (node_name names n)
name_word names a n here = ⊎_elim
    (λ e. subst IsWord (sym (dummy_is names n e)) dummy_word)
    (λ ne. subst IsWord (sym (name_is names n ne)) (a.each n [] (here ne)).whole)
    (cases_eq n 63)

-- no name before it is the same
earlier : (names : List (List ℕ)) → AllPairs (λ a b. a ≢ b) names → (n k : ℕ) → n < length names → k < n
    → get_or names n [] ≢ get_or names k []
earlier names h n k lt less = λ e. h k n [] less lt (sym e)

not_equal : (xs ys : List ℕ) → xs ≢ ys → bytes_eq xs ys ≡ false
not_equal xs ys ne = false_from_ne_true (bytes_eq xs ys) (λ t. ne ((bytes_eq-Decides xs ys).0 t))

place_said : (names : List (List ℕ)) → AreNames names → (n : ℕ) → n < length names → position (bytes_eq (get_or names n [])) names ≡ Some n
place_said names a n lt =
    let name = get_or names n [] in
    let at : position_or_len (bytes_eq name) names ≡ n =
    position_or_len_is (bytes_eq name) names n [] (omega arith)
    (λ k less. not_equal name (get_or names k []) (earlier names a.distinct n k lt less)) (λ _. (bytes_eq-Decides name name).1 refl) in
    ap (λ p. cond (nat_lt p (length names)) (Some p) None) at
    ∙ cond-true (nat_lt n (length names)) (Some n) None (lt-ltb n (length names) lt)

-- a node is said by its name
pub node_told : (names : List (List ℕ)) → AreNames names → (n : ℕ) → IsNode names n → node_said names (node_name names n) ≡ Some n
node_told names a n here = ⊎_elim
    (λ (e : n ≡ 63). ap (node_said names) (dummy_is names n e) ∙ ap Some (sym e))
    (λ (ne : n ≢ 63).
    let lt : n < length names = here ne in
    ap (node_said names) (name_is names n ne)
    ∙ cond-false (bytes_eq (get_or names n []) (codes "dummy")) (Some 63) (position (bytes_eq (get_or names n [])) names)
    (not_equal (get_or names n []) (codes "dummy") (a.each n [] lt).other)
    ∙ place_said names a n lt)
    (cases_eq n 63)

-- a set is said by the names of its nodes
bit : ℕ → ℕ → Bool
bit late n = late / 2 ^ n % 2 == 1

more_bits : (late k : ℕ) → late % 2 ^ (k + 1) ≡ (late / 2 ^ k % 2) * 2 ^ k + late % 2 ^ k
more_bits late k =
    let e : k + 1 ≡ 1 + k = omega arith in
    ap (λ m. late % 2 ^ m) e ∙ mod-pow-add late 1 k

set_from : (names : List (List ℕ)) → AreNames names → (late : ℕ) → ((n : ℕ) → n < 64 → late / 2 ^ n % 2 ≡ 1 → IsNode names n)
    → (k m : ℕ) → k + m ≡ 64
    → late_said names (map (node_name names) (filter (λ n. late / 2 ^ n % 2 == 1) (range_with_len k m))) (late % 2 ^ k)
    ≡ Some (late % 2 ^ 64)
set_from names a late named k zero e = let whole : k ≡ 64 = omega arith in ap (λ j. Some (late % 2 ^ j)) whole
set_from names a late named k (suc m) e = ⊎_elim
    (λ (t : (late / 2 ^ k % 2 == 1) ≡ true).
    let one : late / 2 ^ k % 2 ≡ 1 = eqb-true (late / 2 ^ k % 2) 1 t in
    let sum : late % 2 ^ k + 2 ^ k ≡ late % 2 ^ (k + 1) = omega (arith, more_bits late k ∙ ap (λ b. b * 2 ^ k + late % 2 ^ k) one) in
    let low : 0 ≤ k + 1 = omega arith in
    let least : 2 ^ 0 ≤ 2 ^ (k + 1) = pow_mono low in
    let positive : 0 < 2 ^ (k + 1) = omega (arith, least) in
    let high : k + 1 ≤ 64 = omega arith in
    let up : 2 ^ (k + 1) ≤ 2 ^ 64 = pow_mono high in
    let small : late % 2 ^ k + 2 ^ k < 2 ^ 64 = omega (arith, sum, mod_below late (2 ^ (k + 1)) positive, up) in
    let words = map (node_name names) (filter (λ n. late / 2 ^ n % 2 == 1) (range_with_len (k + 1) m)) in
    let said : node_said names (node_name names k) ≡ Some k = node_told names a k (named k (omega arith) one) in
    let fits : nat_lt (late % 2 ^ k + 2 ^ k) (2 ^ 64) ≡ true = lt-ltb _ _ small in
    rw t (rw said (rw fits (rw sum (set_from names a late named (k + 1) m (omega arith))))))
    (λ (f : (late / 2 ^ k % 2 == 1) ≡ false).
    let low : late / 2 ^ k % 2 ≡ 0 = (let d : late / 2 ^ k % 2 < 2 = mod_below (late / 2 ^ k) 2 (omega arith) in
    let n : late / 2 ^ k % 2 ≢ 1 = λ one. cc (eq-eqb (late / 2 ^ k % 2) 1 one) in omega arith) in
    let same : late % 2 ^ k ≡ late % 2 ^ (k + 1) = omega (arith, more_bits late k ∙ ap (λ b. b * 2 ^ k + late % 2 ^ k) low) in
    rw f (rw same (set_from names a late named (k + 1) m (omega arith))))
    (cases_Bool (late / 2 ^ k % 2 == 1))

pub set_told : (names : List (List ℕ)) → AreNames names → (late : ℕ) → late < 2 ^ 64
    → ((n : ℕ) → n < 64 → late / 2 ^ n % 2 ≡ 1 → IsNode names n)
    → late_said names (map (node_name names) (late_nodes late)) 0 ≡ Some late
unfolding late_nodes
set_told names a late fits named =
    let zero_bits : late % 2 ^ 0 ≡ 0 = omega arith in
    let all_bits : late % 2 ^ 64 ≡ late = omega arith in
    ap (late_said names (map (node_name names) (late_nodes late))) (sym zero_bits) ∙ set_from names a late named 0 64 refl
    ∙ ap Some all_bits

set_words : (names : List (List ℕ)) → AreNames names → (late : ℕ) → ((n : ℕ) → n < 64 → late / 2 ^ n % 2 ≡ 1 → IsNode names n)
    → (k m : ℕ) → k + m ≡ 64
    → All IsWord (map (node_name names) (filter (λ n. late / 2 ^ n % 2 == 1) (range_with_len k m)))
set_words names a late named k zero e = All-nil IsWord
set_words names a late named k (suc m) e = ⊎_elim
    (λ (t : (late / 2 ^ k % 2 == 1) ≡ true).
    rw t (All-cons IsWord (node_name names k) _ (name_word names a k (named k (omega arith) (eqb-true (late / 2 ^ k % 2) 1 t)))
    (set_words names a late named (k + 1) m (omega arith))))
    (λ (f : (late / 2 ^ k % 2 == 1) ≡ false). rw f (set_words names a late named (k + 1) m (omega arith)))
    (cases_Bool (late / 2 ^ k % 2 == 1))

late_words : (names : List (List ℕ)) → AreNames names → (late : ℕ) → ((n : ℕ) → n < 64 → late / 2 ^ n % 2 ≡ 1 → IsNode names n)
    → All IsWord (map (node_name names) (late_nodes late))
unfolding late_nodes
late_words names a late named = set_words names a late named 0 64 refl

-- what the words of an event's line are, and what is said of them
pub record IsSaid (names : List (List ℕ)) (text : List ℕ) (event : Event) : Type 0 where
  pub first : List ℕ
  pub cycle : ℕ
  pub others : List (List ℕ)
  pub words : slice_split is_space text ≡ first ∷ decimal cycle ∷ others
  pub fits : cycle < 2 ^ 32
  pub said : event_said names first cycle others ≡ Some event

-- a line of words, without its line feed
line_words : (text first : List ℕ) (cycle : ℕ) (others : List (List ℕ)) → IsWord first → cycle < 2 ^ 32 → All IsWord others
    → text ++ 10 ∷ [] ≡ line first (decimal cycle ∷ others)
    → slice_split is_space text ≡ first ∷ decimal cycle ∷ others
line_words text first cycle others f c o told =
    let words = decimal cycle ∷ others in
    let same : text ≡ first ++ spaced words = append_cancel_right text (first ++ spaced words) (10 ∷ []) told in
    ap (slice_split is_space) same ∙ words_split first words f (All-cons IsWord (decimal cycle) others (decimal_word cycle (omega arith)) o)

begin_word : IsWord (codes "begin")
begin_word = All-from_recursion (λ b. is_space b ≡ false) (codes "begin") (refl, (refl, (refl, (refl, (refl, tt)))))

start_word : IsWord (codes "start")
start_word = All-from_recursion (λ b. is_space b ≡ false) (codes "start") (refl, (refl, (refl, (refl, (refl, tt)))))

finish_word : IsWord (codes "finish")
finish_word = All-from_recursion (λ b. is_space b ≡ false) (codes "finish") (refl, (refl, (refl, (refl, (refl, (refl, tt))))))

tick_word : IsWord (codes "tick")
tick_word = All-from_recursion (λ b. is_space b ≡ false) (codes "tick") (refl, (refl, (refl, (refl, tt))))

end_word : IsWord (codes "end")
end_word = All-from_recursion (λ b. is_space b ≡ false) (codes "end") (refl, (refl, (refl, tt)))

one_word : (names : List (List ℕ)) → AreNames names → (n : ℕ) → IsNode names n → All IsWord (node_name names n ∷ [])
one_word names a n here = All-cons IsWord (node_name names n) [] (name_word names a n here) (All-nil IsWord)

-- whoever's line it is, that event is said of its words
pub is_said : (names : List (List ℕ)) (text : List ℕ) (event : Event) → AreNames names → IsLineOf names text event → IsSaid names text event
is_said names text (Begin cycle) a h = record {
  first = codes "begin";
  cycle = cycle;
  others = [];
  words = line_words text (codes "begin") cycle [] begin_word h.fits (All-nil IsWord) h.told;
  fits = h.fits;
  said = refl;
}
is_said names text (Start cycle node) a h = record {
  first = codes "start";
  cycle = cycle;
  others = node_name names node ∷ [];
  words = line_words text (codes "start") cycle (node_name names node ∷ []) start_word h.fits (one_word names a node h.named) h.told;
  fits = h.fits;
  said = ap (option_map (Start cycle)) (node_told names a node h.named);
}
is_said names text (Finish cycle node) a h = record {
  first = codes "finish";
  cycle = cycle;
  others = node_name names node ∷ [];
  words = line_words text (codes "finish") cycle (node_name names node ∷ []) finish_word h.fits (one_word names a node h.named) h.told;
  fits = h.fits;
  said = ap (option_map (Finish cycle)) (node_told names a node h.named);
}
is_said names text (Tick cycle late) a h = record {
  first = codes "tick";
  cycle = cycle;
  others = map (node_name names) (late_nodes late);
  words = line_words text (codes "tick") cycle (map (node_name names) (late_nodes late)) tick_word h.fits.0
      (late_words names a late h.named) h.told;
  fits = h.fits.0;
  said = ap (option_map (Tick cycle)) (set_told names a late h.fits.1 h.named);
}
is_said names text (End cycle) a h = record {
  first = codes "end";
  cycle = cycle;
  others = [];
  words = line_words text (codes "end") cycle [] end_word h.fits (All-nil IsWord) h.told;
  fits = h.fits;
  said = refl;
}
