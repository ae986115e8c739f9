-- The pieces of a line of words.
use Rattle.std.proofs.Common.{◌≡◌, ℕ, false, List, [], ◌∷◌, ◌++◌, All, refl, ap, ◌∙◌, append-nil}
use Rattle.std.specs.List.{slice_split}
use Rattle.std.proofs.lemmas.List.Elements.{All-head, All-tail}
use Rattle.std.proofs.lemmas.List.Splits.{slice_split_none, slice_split_at}
use Rattle.cycle_trace.specs.TraceReading.{is_space}
use Rattle.cycle_trace.specs.Words.{spaced}

-- a word has no space
abbrev pub IsWord : List ℕ → Type 0
IsWord word = All (λ b. is_space b ≡ false) word

-- a line of words is cut into its words
pub words_split : (first : List ℕ) (others : List (List ℕ)) → IsWord first → All IsWord others
    → slice_split is_space (first ++ spaced others) ≡ first ∷ others
words_split first [] h hs = ap (slice_split is_space) (append-nil first) ∙ slice_split_none is_space first h
words_split first (word ∷ words) h hs =
    slice_split_at is_space first 32 (word ++ spaced words) h refl
    ∙ ap (λ rest. first ∷ rest) (words_split word words (All-head IsWord word words hs) (All-tail IsWord word words hs))
