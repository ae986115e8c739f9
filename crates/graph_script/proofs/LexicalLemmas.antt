-- Laws of `specs/Lexical.antt`: a piece or a word, cut off the front.
use Rattle.std.proofs.Common.{◌≡◌, ℕ, ◌<◌, Bool, true, false, List, [], ◌∷◌, length, take, drop, refl, sym, ap, ◌∙◌, arith}
use Rattle.std.specs.Prelude.{filter, nat_lt, None}
use Rattle.std.specs.List.{slice_split, position_or_len, prefix_len}
use Rattle.std.proofs.lemmas.Bool.{lt-ltb}
use Rattle.pw_lists.proofs.PieceLemmas.{one-more, pieces_after, first_piece}
use Rattle.graph_script.specs.Arguments.{two_of}
use Rattle.graph_script.specs.Lexical.{is_blank, words_of}

-- blanks at the front are in no word
pub words_past_gap : (xs : List ℕ) → words_of (drop (prefix_len is_blank xs) xs) ≡ words_of xs
words_past_gap [] = refl
words_past_gap (x ∷ xs) = at_front (is_blank x) refl (words_past_gap xs)
  where
    at_front : (b : Bool) → is_blank x ≡ b → words_of (drop (prefix_len is_blank xs) xs) ≡ words_of xs
        → words_of (drop (prefix_len is_blank (x ∷ xs)) (x ∷ xs)) ≡ words_of (x ∷ xs)
    at_front true e more = simp e (simp one-more more)
    at_front false e more = simp e refl

-- the rest of a line begins with the blank that ended its first word, or is empty
words_after : (xs : List ℕ) → filter (λ word. nat_lt 0 (length word)) (pieces_after is_blank (drop (position_or_len is_blank xs) xs))
    ≡ words_of (drop (position_or_len is_blank xs) xs)
words_after [] = refl
words_after (x ∷ xs) = at_front (is_blank x) refl (words_after xs)
  where
    at_front : (b : Bool) → is_blank x ≡ b → filter (λ word. nat_lt 0 (length word))
        (pieces_after is_blank (drop (position_or_len is_blank xs) xs)) ≡ words_of (drop (position_or_len is_blank xs) xs)
        → filter (λ word. nat_lt 0 (length word)) (pieces_after is_blank (drop (position_or_len is_blank (x ∷ xs)) (x ∷ xs)))
        ≡ words_of (drop (position_or_len is_blank (x ∷ xs)) (x ∷ xs))
    at_front true e more = simp e refl
    at_front false e more = simp e (simp one-more more)

-- the first word, where a line begins with one
pub first_word : (xs : List ℕ) → 0 < length (take (position_or_len is_blank xs) xs)
    → words_of xs ≡ take (position_or_len is_blank xs) xs ∷ words_of (drop (position_or_len is_blank xs) xs)
first_word xs some = let long : nat_lt 0 (length (take (position_or_len is_blank xs) xs)) ≡ true = lt-ltb 0 _ some in
    rw (first_piece is_blank xs) (rw long (rw (words_after xs) refl))

-- after the gap there is no word: the line has no word
pub no_word : (xs : List ℕ) → length (take (position_or_len is_blank (drop (prefix_len is_blank xs) xs)) (drop (prefix_len is_blank xs) xs))
    ≡ 0 → words_of xs ≡ []
no_word [] none = refl
no_word (x ∷ xs) none = at_front (is_blank x) refl none (no_word xs)
  where
    at_front : (b : Bool) → is_blank x ≡ b → length (take (position_or_len is_blank (drop (prefix_len is_blank (x ∷ xs)) (x ∷ xs)))
        (drop (prefix_len is_blank (x ∷ xs)) (x ∷ xs))) ≡ 0
        → (length (take (position_or_len is_blank (drop (prefix_len is_blank xs) xs)) (drop (prefix_len is_blank xs) xs)) ≡ 0
        → words_of xs ≡ []) → words_of (x ∷ xs) ≡ []
    at_front true e none more = let n = simp e at none in let m = simp one-more at n in simp e (more m)
    at_front false e none more = let n = simp e at none in let m = simp one-more at n in cc

pub cut_word : (line rest word after : List ℕ) → rest ≡ drop (prefix_len is_blank line) line
    → word ≡ take (position_or_len is_blank rest) rest → after ≡ drop (position_or_len is_blank rest) rest
    → 0 < length word → words_of line ≡ word ∷ words_of after
cut_word line rest word after r w a some =
    let cut = first_word rest (omega (arith, some, ap length w)) in
    sym (words_past_gap line) ∙ ap words_of (sym r) ∙ cut ∙ (λ i. sym w i ∷ words_of (sym a i))

pub cut_nothing : (line rest word : List ℕ) → rest ≡ drop (prefix_len is_blank line) line → word ≡ take (position_or_len is_blank rest) rest
    → length word ≡ 0 → words_of line ≡ []
cut_nothing line rest word r w none = no_word line
    (ap (λ xs. length (take (position_or_len is_blank xs) xs)) (sym r) ∙ ap length (sym w) ∙ none)

-- a list of pieces is never empty, so that three are no two
pub more_than_two : (p : ℕ → Bool) (pieces last : List (List ℕ)) (a b rest : List ℕ) → pieces ≡ a ∷ last → last ≡ b ∷ slice_split p rest
    → two_of pieces ≡ None
more_than_two p pieces last a b rest e f = rw e (rw f (rw (first_piece p rest) refl))
