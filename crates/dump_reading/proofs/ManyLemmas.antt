-- Things one after the other.
use Rattle.std.proofs.Common.{◌≡◌, ℕ, suc, List, [], ◌∷◌, ◌++◌, length, map, sym, ap, ◌∙◌, append_assoc, append-nil}
use Rattle.std.specs.Prelude.{Option, Some, None, option_and_then}
use Rattle.std.specs.List.{flat_map, AllByRecursion}
use Rattle.std.proofs.lemmas.List.Concat.{flat_map-cons}
use Rattle.pod_codec.specs.DumpWords.{Lines, text_at}
use Rattle.dump_reading.specs.working.Lines.{many}

-- one more is read
pub many_more : {X : Type 0} (read : List ℕ → Option (X × List ℕ)) (n k : ℕ) (xs : List X) (text : List ℕ) (x : X) (rest : List ℕ)
    → n ≡ suc k → read text ≡ Some (x, rest) → many read n xs text ≡ many read k (xs ++ x ∷ []) rest
unfolding many
many_more {X} read n k xs text x rest e h =
    ap (λ (m : ℕ). many read m xs text) e
    ∙ ap (option_and_then (λ (c : X × List ℕ). many read k (xs ++ c.0 ∷ []) c.1)) h

-- one is not
pub many_stops : {X : Type 0} (read : List ℕ → Option (X × List ℕ)) (n k : ℕ) (xs : List X) (text : List ℕ)
    → n ≡ suc k → read text ≡ None → many read n xs text ≡ None
unfolding many
many_stops {X} read n k xs text e h =
    ap (λ (m : ℕ). many read m xs text) e
    ∙ ap (option_and_then (λ (c : X × List ℕ). many read k (xs ++ c.0 ∷ []) c.1)) h

-- all are
pub many_done : {X : Type 0} (read : List ℕ → Option (X × List ℕ)) (n : ℕ) (xs : List X) (text : List ℕ)
    → n ≡ 0 → many read n xs text ≡ Some (xs, text)
unfolding many
many_done read n xs text e = ap (λ (m : ℕ). many read m xs text) e

-- what is written one after the other is read back
pub many_back : {X : Type 0} (read : List ℕ → Option (X × List ℕ)) (lines : X → Lines) (level : ℕ) (Good : X → Type 0)
    → ((x : X) (more : List ℕ) → Good x → read (text_at level (lines x) ++ more) ≡ Some (x, more))
    → (xs so_far : List X) (more : List ℕ) → AllByRecursion Good xs
    → many read (length xs) so_far (flat_map (text_at level) (map lines xs) ++ more) ≡ Some (so_far ++ xs, more)
unfolding many
many_back read lines level Good each [] so_far more h = ap (λ s. Some (s, more)) (sym (append-nil so_far))
many_back {X} read lines level Good each (x ∷ xs) so_far more h =
    let rest = flat_map (text_at level) (map lines xs) in
    let split : flat_map (text_at level) (map lines (x ∷ xs)) ++ more ≡ text_at level (lines x) ++ (rest ++ more) =
    ap (λ t. t ++ more) (flat_map-cons (text_at level) (lines x) (map lines xs))
    ∙ append_assoc (text_at level (lines x)) rest more in
    ap (λ t. many read (suc (length xs)) so_far t) split
    ∙ ap (option_and_then (λ (c : X × List ℕ). many read (length xs) (so_far ++ c.0 ∷ []) c.1)) (each x (rest ++ more) h.0)
    ∙ many_back read lines level Good each xs (so_far ++ x ∷ []) more h.1
    ∙ ap (λ s. Some (s, more)) (append_assoc so_far (x ∷ []) xs)
