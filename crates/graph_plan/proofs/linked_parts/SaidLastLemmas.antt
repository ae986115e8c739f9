-- The first part that has both nodes of a line, looked for one part after the other.
use Rattle.std.proofs.Common.{◌≡◌, ℕ, ◌+◌, ◌<◌, ◌≤◌, Bool, true, false, cond, List, ◌∷◌, length, drop, get_or, Option, Some, sym, ap, ◌∙◌}
use Rattle.std.specs.Prelude.{find}
use Rattle.std.specs.Option.{option_map_or}
use Rattle.std.proofs.lemmas.List.{drop_more, drop_all}
use Rattle.graph_lines.specs.declared.graph.Graph.{Graph}
use Rattle.graph_plan.specs.declared.member.Member.{Member}
use Rattle.graph_plan.specs.Together.{has_both, last_line, said_last}

module _ (a b : ℕ) (ms : List Member) (k : ℕ) (so_far : find (has_both a b) (drop k ms) ≡ find (has_both a b) ms) where
  module _ (m : Member) (low : k < length ms) (is : m ≡ get_or ms k m) where
    next_found : find (has_both a b) (drop k ms) ≡ cond (has_both a b m) (Some m) (find (has_both a b) (drop (k + 1) ms))
    next_found = ap (find (has_both a b)) (drop_more ms k m low ∙ ap (λ (x : Member). x ∷ drop (k + 1) ms) (sym is))

    pub said_here : (whole : Graph) → has_both a b m ≡ true → said_last whole ms a b ≡ last_line m.graph
    said_here whole held = ap (λ (o : Option Member). last_line (option_map_or (λ (x : Member). x.graph) o whole))
        (sym so_far ∙ (next_found ∙ ap (λ (t : Bool). cond t (Some m) (find (has_both a b) (drop (k + 1) ms))) held))

    pub not_here : has_both a b m ≡ false → find (has_both a b) (drop (k + 1) ms) ≡ find (has_both a b) ms
    not_here fails = sym (ap (λ (t : Bool). cond t (Some m) (find (has_both a b) (drop (k + 1) ms))) fails) ∙ (sym next_found ∙ so_far)

  pub said_whole : (whole : Graph) → length ms ≤ k → said_last whole ms a b ≡ last_line whole
  said_whole whole past = ap (λ (o : Option Member). last_line (option_map_or (λ (x : Member). x.graph) o whole))
      (sym so_far ∙ ap (find (has_both a b)) (drop_all k ms past))
