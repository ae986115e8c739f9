-- Laws of lines and their words: what they are made of, how long they are, and that words are found again.
use Rattle.std.proofs.Common.{◌≡◌, ℕ, ◌+◌, ◌<◌, ◌≤◌, Bool, true, false, cond, List, [], ◌∷◌, ◌++◌, length}
use Rattle.std.proofs.Common.{refl, sym, ap, ◌∙◌, subst, arith, append-nil, length-append}
use Rattle.std.specs.Prelude.{All, filter, nat_lt}
use Rattle.std.specs.List.{slice_split, list_all, onto_first}
use Rattle.std.proofs.lemmas.Bool.{and_parts, and_from, lt-ltb, ltb-true}
use Rattle.std.proofs.lemmas.List.Elements.{All-nil, All-cons, All-head, All-tail, All-append, All-weaker}
use Rattle.std.proofs.lemmas.List.Splits.{slice_split_none, slice_split_at, length-slice_split}
use Rattle.graph_script.specs.Lexical.{is_allowed, is_line_feed, is_blank, words_of}
use Rattle.graph_script.specs.Printing.{spaced}

-- a byte that may be in a line, and one of a word
pub record IsLineByte (b : ℕ) : Type 0 where
  pub allowed : is_allowed b ≡ true
  pub in_line : is_line_feed b ≡ false

pub record IsWordByte (b : ℕ) : Type 0 where
  pub line : IsLineByte b
  pub no_blank : is_blank b ≡ false

pub record IsWord (word : List ℕ) : Type 0 where
  pub some : 0 < length word
  pub bytes : All IsWordByte word

-- a byte of a piece is no mark
pub record IsPieceByte (Q : ℕ → Type 0) (p : ℕ → Bool) (b : ℕ) : Type 0 where
  pub is : Q b
  pub no_mark : p b ≡ false

-- what the pieces of a text are made of
onto : (Q : ℕ → Type 0) (p : ℕ → Bool) (x : ℕ) (pieces : List (List ℕ)) → IsPieceByte Q p x
    → All (All (IsPieceByte Q p)) pieces → All (All (IsPieceByte Q p)) (onto_first x pieces)
onto Q p x [] q rest =
    All-cons (All (IsPieceByte Q p)) (x ∷ []) [] (All-cons (IsPieceByte Q p) x [] q (All-nil (IsPieceByte Q p)))
    (All-nil (All (IsPieceByte Q p)))
onto Q p x (piece ∷ pieces) q rest =
    All-cons (All (IsPieceByte Q p)) (x ∷ piece) pieces
    (All-cons (IsPieceByte Q p) x piece q (All-head (All (IsPieceByte Q p)) piece pieces rest))
    (All-tail (All (IsPieceByte Q p)) piece pieces rest)

pub pieces_all : (Q : ℕ → Type 0) (p : ℕ → Bool) (xs : List ℕ) → All Q xs → All (All (IsPieceByte Q p)) (slice_split p xs)
pieces_all Q p [] all =
    All-cons (All (IsPieceByte Q p)) [] [] (All-nil (IsPieceByte Q p)) (All-nil (All (IsPieceByte Q p)))
pieces_all Q p (x ∷ xs) all = at (p x) refl (pieces_all Q p xs (All-tail Q x xs all))
  where
    at : (b : Bool) → p x ≡ b → All (All (IsPieceByte Q p)) (slice_split p xs)
        → All (All (IsPieceByte Q p)) (slice_split p (x ∷ xs))
    at true e rest =
        subst (λ b. All (All (IsPieceByte Q p)) (cond b ([] ∷ slice_split p xs) (onto_first x (slice_split p xs)))) (sym e)
        (All-cons (All (IsPieceByte Q p)) [] (slice_split p xs) (All-nil (IsPieceByte Q p)) rest)
    at false e rest =
        subst (λ b. All (All (IsPieceByte Q p)) (cond b ([] ∷ slice_split p xs) (onto_first x (slice_split p xs)))) (sym e)
        (onto Q p x (slice_split p xs) (record { is = All-head Q x xs all; no_mark = e }) rest)

-- the words of a line
kept : (pieces : List (List ℕ)) → All (All (IsPieceByte IsLineByte is_blank)) pieces
    → All IsWord (filter (λ word. nat_lt 0 (length word)) pieces)
kept [] h = All-nil IsWord
kept (piece ∷ pieces) h = at (nat_lt 0 (length piece)) refl (kept pieces (All-tail (All (IsPieceByte IsLineByte is_blank)) piece pieces h))
  where
    at : (b : Bool) → nat_lt 0 (length piece) ≡ b → All IsWord (filter (λ word. nat_lt 0 (length word)) pieces)
        → All IsWord (filter (λ word. nat_lt 0 (length word)) (piece ∷ pieces))
    at true e rest =
        subst (λ b. All IsWord (cond b (piece ∷ filter (λ word. nat_lt 0 (length word)) pieces)
        (filter (λ word. nat_lt 0 (length word)) pieces))) (sym e)
        (All-cons IsWord piece (filter (λ word. nat_lt 0 (length word)) pieces) (record {
          some = ltb-true 0 (length piece) e;
          bytes = All-weaker (IsPieceByte IsLineByte is_blank) IsWordByte (λ b q. record { line = q.is; no_blank = q.no_mark }) piece
              (All-head (All (IsPieceByte IsLineByte is_blank)) piece pieces h);
        }) rest)
    at false e rest =
        subst (λ b. All IsWord (cond b (piece ∷ filter (λ word. nat_lt 0 (length word)) pieces)
        (filter (λ word. nat_lt 0 (length word)) pieces))) (sym e) rest

pub words-are : (line : List ℕ) → All IsLineByte line → All IsWord (words_of line)
words-are line all = kept (slice_split is_blank line) (pieces_all IsLineByte is_blank line all)

-- a line without a line feed, all of whose bytes may be in a script
pub line_bytes : (line : List ℕ) → list_all is_allowed line ≡ true → All (λ b. is_line_feed b ≡ false) line → All IsLineByte line
line_bytes [] e all = All-nil IsLineByte
line_bytes (b ∷ line) e all =
    let p = and_parts (is_allowed b) (list_all is_allowed line) e in
    All-cons IsLineByte b line (record { allowed = p.0; in_line = All-head (λ c. is_line_feed c ≡ false) b line all })
    (line_bytes line p.1 (All-tail (λ c. is_line_feed c ≡ false) b line all))

pub allowed_all : (line : List ℕ) → All IsLineByte line → list_all is_allowed line ≡ true
allowed_all [] all = refl
allowed_all (b ∷ line) all =
    and_from (is_allowed b) (list_all is_allowed line) (All-head IsLineByte b line all).allowed
    (allowed_all line (All-tail IsLineByte b line all))

-- words with spaces between them: their bytes, and that they are found again
spaced_bytes : (words : List (List ℕ)) → All IsWord words → All IsLineByte (spaced words)
spaced_bytes [] all = All-nil IsLineByte
spaced_bytes (word ∷ words) all =
    All-cons IsLineByte 0x20 (word ++ spaced words) (record { allowed = refl; in_line = refl })
    (All-append IsLineByte word (spaced words)
    (All-weaker IsWordByte IsLineByte (λ b q. q.line) word (All-head IsWord word words all).bytes)
    (spaced_bytes words (All-tail IsWord word words all)))

pub joined_bytes : (first : List ℕ) (others : List (List ℕ)) → IsWord first → All IsWord others → All IsLineByte (first ++ spaced others)
joined_bytes first others h hs =
    All-append IsLineByte first (spaced others) (All-weaker IsWordByte IsLineByte (λ b q. q.line) first h.bytes) (spaced_bytes others hs)

no_blanks : (word : List ℕ) → IsWord word → All (λ b. is_blank b ≡ false) word
no_blanks word h = All-weaker IsWordByte (λ b. is_blank b ≡ false) (λ b q. q.no_blank) word h.bytes

split_joined : (first : List ℕ) (others : List (List ℕ)) → IsWord first → All IsWord others
    → slice_split is_blank (first ++ spaced others) ≡ first ∷ others
split_joined first [] h hs = ap (slice_split is_blank) (append-nil first) ∙ slice_split_none is_blank first (no_blanks first h)
split_joined first (word ∷ words) h hs =
    slice_split_at is_blank first 0x20 (word ++ spaced words) (no_blanks first h) refl
    ∙ ap (λ rest. first ∷ rest) (split_joined word words (All-head IsWord word words hs) (All-tail IsWord word words hs))

filter_all : (words : List (List ℕ)) → All IsWord words → filter (λ word. nat_lt 0 (length word)) words ≡ words
filter_all [] all = refl
filter_all (word ∷ words) all =
    ap (λ b. cond b (word ∷ filter (λ w. nat_lt 0 (length w)) words) (filter (λ w. nat_lt 0 (length w)) words))
    (lt-ltb 0 (length word) (All-head IsWord word words all).some)
    ∙ ap (λ ws. word ∷ ws) (filter_all words (All-tail IsWord word words all))

pub words_joined : (first : List ℕ) (others : List (List ℕ)) → IsWord first → All IsWord others
    → words_of (first ++ spaced others) ≡ first ∷ others
words_joined first others h hs =
    ap (filter (λ word. nat_lt 0 (length word))) (split_joined first others h hs)
    ∙ filter_all (first ∷ others) (All-cons IsWord first others h hs)

-- how long they are
onto_longer : (x : ℕ) (pieces : List (List ℕ)) → 0 < length pieces → length (spaced (onto_first x pieces)) ≡ length (spaced pieces) + 1
onto_longer x [] some = absurd (omega arith)
onto_longer x (piece ∷ pieces) some = omega arith

pub length_split : (p : ℕ → Bool) (xs : List ℕ) → length (spaced (slice_split p xs)) ≡ length xs + 1
length_split p [] = omega arith
length_split p (x ∷ xs) = at (p x) refl (length_split p xs)
  where
    at : (b : Bool) → p x ≡ b → length (spaced (slice_split p xs)) ≡ length xs + 1
        → length (spaced (slice_split p (x ∷ xs))) ≡ length (x ∷ xs) + 1
    at true e more =
        ap (λ b. length (spaced (cond b ([] ∷ slice_split p xs) (onto_first x (slice_split p xs))))) e ∙ omega arith
    at false e more =
        let some : 0 < length (slice_split p xs) = omega (arith, length-slice_split p xs) in
        ap (λ b. length (spaced (cond b ([] ∷ slice_split p xs) (onto_first x (slice_split p xs))))) e
        ∙ onto_longer x (slice_split p xs) some ∙ omega arith

filter_shorter : (f : List ℕ → Bool) (pieces : List (List ℕ)) → length (spaced (filter f pieces)) ≤ length (spaced pieces)
filter_shorter f [] = omega arith
filter_shorter f (piece ∷ pieces) = at (f piece) refl (filter_shorter f pieces)
  where
    at : (b : Bool) → f piece ≡ b → length (spaced (filter f pieces)) ≤ length (spaced pieces)
        → length (spaced (filter f (piece ∷ pieces))) ≤ length (spaced (piece ∷ pieces))
    at true e less =
        subst (λ b. length (spaced (cond b (piece ∷ filter f pieces) (filter f pieces))) ≤ length (spaced (piece ∷ pieces))) (sym e)
        (omega (arith, length-append piece (spaced (filter f pieces)), length-append piece (spaced pieces)))
    at false e less =
        subst (λ b. length (spaced (cond b (piece ∷ filter f pieces) (filter f pieces))) ≤ length (spaced (piece ∷ pieces))) (sym e)
        (omega (arith, length-append piece (spaced pieces)))

-- a line is at least as long as its words with one space between two
pub joined_shorter : (line first : List ℕ) (others : List (List ℕ)) → words_of line ≡ first ∷ others
    → length (first ++ spaced others) ≤ length line
joined_shorter line first others e =
    let all = filter_shorter (λ word. nat_lt 0 (length word)) (slice_split is_blank line) in
    let cut = length_split is_blank line in
    let here : length (spaced (words_of line)) ≡ 1 + length (first ++ spaced others) = ap (λ ws. length (spaced ws)) e ∙ omega arith in
    omega arith
