-- The kinds of the lines so far, and the nodes, with one more.
use Rattle.std.proofs.Common.{◌≡◌, ℕ, ◌+◌, ◌<◌, List, [], ◌∷◌, ◌++◌, map, length, get_or, take, Option, Some, None, refl, sym, ap, ◌∙◌, zero-add, append-nil}
use Rattle.std.specs.Prelude.{option_map, filter_map}
use Rattle.std.specs.List.{range_with_len}
use Rattle.std.proofs.lemmas.List.{map-append, take_more}
use Rattle.std.proofs.lemmas.List.Elements.{filter_map-append}
use Rattle.std.proofs.lemmas.List.FromFn.{map-range_with_len_more}
use Rattle.pw_graph.specs.declared.kind.Kind.{Kind}
use Rattle.graph_script.specs.declared.script.Line.{Line}
use Rattle.graph_script.specs.Kinds.{made_by}
use Rattle.graph_lines.specs.Start.{kinds_of, newcomer}

-- of one line
one_kind : (line : Line) (k : Kind) → option_map (λ m. m.1) (made_by line.command) ≡ Some k → kinds_of (line ∷ []) ≡ k ∷ []
one_kind line k e = go (made_by line.command) refl e where
  go : (o : Option (ℕ × Kind)) → made_by line.command ≡ o → option_map (λ m. m.1) o ≡ Some k → kinds_of (line ∷ []) ≡ k ∷ []
  go (Some m) d f = rw d (let same : m.1 ≡ k = cc in ap (λ (x : Kind). x ∷ []) same)
  go None d f = cc

no_kind : (line : Line) → option_map (λ m. m.1) (made_by line.command) ≡ None → kinds_of (line ∷ []) ≡ []
no_kind line e = go (made_by line.command) refl e where
  go : (o : Option (ℕ × Kind)) → made_by line.command ≡ o → option_map (λ m. m.1) o ≡ None → kinds_of (line ∷ []) ≡ []
  go (Some m) d f = cc
  go None d f = rw d refl

kinds_push : (lines : List Line) (line : Line) → kinds_of (lines ++ line ∷ []) ≡ kinds_of lines ++ kinds_of (line ∷ [])
kinds_push lines line = ap (map (λ (m : ℕ × Kind). m.1)) (filter_map-append (λ (l : Line). made_by l.command) lines (line ∷ []))
    ∙ map-append (λ (m : ℕ × Kind). m.1) (filter_map (λ (l : Line). made_by l.command) lines) (filter_map (λ (l : Line). made_by l.command) (line ∷ []))

module _ (lines : List Line) (i : ℕ) (line : Line) (lt : i < length lines) (is : line ≡ get_or lines i line) where
  kinds_more : kinds_of (take (i + 1) lines) ≡ kinds_of (take i lines) ++ kinds_of (line ∷ [])
  kinds_more = ap kinds_of (take_more lines i line lt ∙ ap (λ (l : Line). take i lines ++ l ∷ []) (sym is)) ∙ kinds_push (take i lines) line

  pub kinds_some : (o : Option Kind) (k : Kind) → o ≡ option_map (λ m. m.1) (made_by line.command) → o ≡ Some k
      → kinds_of (take (i + 1) lines) ≡ kinds_of (take i lines) ++ k ∷ []
  kinds_some o k e d = kinds_more ∙ ap (λ (ks : List Kind). kinds_of (take i lines) ++ ks) (one_kind line k (sym e ∙ d))

  pub kinds_none : (o : Option Kind) → o ≡ option_map (λ m. m.1) (made_by line.command) → o ≡ None
      → kinds_of (take (i + 1) lines) ≡ kinds_of (take i lines)
  kinds_none o e d = kinds_more ∙ (ap (λ (ks : List Kind). kinds_of (take i lines) ++ ks) (no_kind line (sym e ∙ d)) ∙ append-nil (kinds_of (take i lines)))

pub newcomers_more : (n : ℕ) → map newcomer (range_with_len 0 (n + 1)) ≡ map newcomer (range_with_len 0 n) ++ newcomer n ∷ []
newcomers_more n = map-range_with_len_more newcomer 0 n n (zero-add n)
