-- The nodes of a plan, with one more.
use Rattle.std.proofs.Common.{◌≡◌, inl, inr, ℕ, ◌+◌, List, [], ◌∷◌, ◌++◌, length, Some, sym, ap, ◌∙◌, subst}
use Rattle.std.specs.Prelude.{slice_get}
use Rattle.std.proofs.lemmas.List.{length_push}
use Rattle.pw_graph.specs.declared.plan.PlanNode.{PlanNode}
use Rattle.graph_lines.specs.declared.graph.Graph.{Graph}
use Rattle.graph_plan.specs.PlanOf.{IsNodeOf}
use Rattle.graph_plan.proofs.lists.PlaceLemmas.{parted}

pub nodes_more : (names : List (List ℕ)) (g : Graph) (nodes more : List PlanNode) (node : PlanNode) (i : ℕ) → length nodes ≡ i
    → ((n : ℕ) (x : PlanNode) → slice_get nodes n ≡ Some x → IsNodeOf names g n x) → IsNodeOf names g i node → more ≡ nodes ++ node ∷ []
    → (length more ≡ i + 1) × ((n : ℕ) (x : PlanNode) → slice_get more n ≡ Some x → IsNodeOf names g n x)
nodes_more names g nodes more node i count each is same = (
  ap length same ∙ (length_push nodes node ∙ ap (λ (k : ℕ). k + 1) count),
  λ n x e. elim (parted nodes node x n (sym (ap (λ (xs : List PlanNode). slice_get xs n) same) ∙ e)) [
    | inl old ↦ each n x old
    | inr new ↦ subst (IsNodeOf names g n) new.1 (subst (λ (k : ℕ). IsNodeOf names g k node) (sym (new.0 ∙ count)) is)
  ],
)
