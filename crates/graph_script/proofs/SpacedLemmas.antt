-- Words with spaces between them, put at the end of a text one after the other.
use Rattle.std.proofs.Common.{◌≡◌, ℕ, List, [], ◌∷◌, ◌++◌, length, map, refl, sym, ap, ◌∙◌, append_assoc, append-nil, decimal, arith}
use Rattle.std.specs.Prelude.{Option, Some, None, option_map, option_to_list}
use Rattle.std.specs.List.{cons_option}
use Rattle.pw_graph.specs.declared.kind.Kind.{Kind}
use Rattle.graph_script.specs.declared.script.Line.{Line}
use Rattle.graph_script.specs.Kinds.{made_by, made_of}
use Rattle.graph_script.specs.Printing.{spaced, list_word, kinds_of}

-- a text that grew twice
pub grown_twice : (old mid new a b : List ℕ) → mid ≡ old ++ a → new ≡ mid ++ b → new ≡ old ++ (a ++ b)
grown_twice old mid new a b e f = f ∙ ap (λ t. t ++ b) e ∙ append_assoc old a b

-- a space and a word
pub one_spaced : (old mid new word : List ℕ) → mid ≡ old ++ 0x20 ∷ [] → new ≡ mid ++ word → new ≡ old ++ spaced (word ∷ [])
one_spaced old mid new word e f =
    grown_twice old mid new (0x20 ∷ []) word e f ∙ ap (λ w. old ++ 0x20 ∷ w) (sym (append-nil word))

-- a word, and words after it
pub more_spaced : (old mid new word : List ℕ) (words : List (List ℕ)) → mid ≡ old ++ spaced (word ∷ []) → new ≡ mid ++ spaced words
    → new ≡ old ++ spaced (word ∷ words)
more_spaced old mid new word words e f =
    grown_twice old mid new (0x20 ∷ word) (spaced words) (e ∙ ap (λ w. old ++ 0x20 ∷ w) (append-nil word)) f

-- a word that grows at its end
pub grown_spaced : (old mid new word more : List ℕ) → mid ≡ old ++ spaced (word ∷ []) → new ≡ mid ++ more
    → new ≡ old ++ spaced ((word ++ more) ∷ [])
grown_spaced old mid new word more e f =
    grown_twice old mid new (0x20 ∷ word) more (e ∙ ap (λ w. old ++ 0x20 ∷ w) (append-nil word)) f
    ∙ ap (λ w. old ++ 0x20 ∷ w) (sym (append-nil (word ++ more)))

-- a list of channels, one number taken off the front
pub list_word_last : (first : ℕ) (more : List ℕ) → length more ≡ 0 → list_word (first ∷ more) ≡ decimal first
list_word_last first [] e = refl
list_word_last first (x ∷ xs) e = absurd (omega arith)

pub list_word_more : (first : ℕ) (more : List ℕ) → (length more ≡ 0 → ⊥)
    → list_word (first ∷ more) ≡ decimal first ++ 0x2C ∷ list_word more
list_word_more first [] some = absurd (some refl)
list_word_more first (x ∷ xs) some = refl

-- the kinds that lines make, one line taken off the front
pub kinds_of_more : (line : Line) (more : List Line) (o : Option Kind) → o ≡ option_map (λ m. m.1) (made_by line.command)
    → kinds_of (line ∷ more) ≡ option_to_list o ++ kinds_of more
kinds_of_more line more o e = at (made_by line.command) ∙ ap (λ p. option_to_list p ++ kinds_of more) (sym e)
  where
    at : (m : Option (ℕ × Kind)) → map (λ (x : ℕ × Kind). x.1) (cons_option m (made_of more))
        ≡ option_to_list (option_map (λ (x : ℕ × Kind). x.1) m) ++ kinds_of more
    at None = refl
    at (Some m) = refl

pub ruleset spaces = (one_spaced, more_spaced, grown_spaced)
