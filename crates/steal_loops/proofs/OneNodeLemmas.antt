-- A cell has just one node.
use Rattle.std.proofs.Common.{◌≡◌, ℕ, zero, suc, ◌+◌, ◌<◌, ◌≤◌, Bool, true, false, List, [], ◌∷◌, length, refl, sym, ◌∙◌, subst, arith, ⊎_elim}
use Rattle.std.specs.Prelude.{AllPairs, Contains}
use Rattle.std.proofs.lemmas.Bool.{cases_lt}
use Rattle.pw_graph.specs.declared.plan.Plan.{Plan}
use Rattle.graph_run.specs.Assignment.{drives_somewhere, cells_before, cell_count, cell_number}
use Rattle.graph_run.specs.Seating.{nodes_of_loop}
use Rattle.graph_run.proofs.LoopLemmas.{nodes_ascend}
use Rattle.graph_run.proofs.ReadyLemmas.{has_loop, is_in}
use Rattle.graph_run.proofs.SeatingLemmas.{one_cell_more, no_cell_more, own_cell, one_cell}

-- a list that ascends, has an element, and no two that differ
single : (l : List ℕ) (x : ℕ) → Contains l x → AllPairs (λ m n. m < n) l → ((a b : ℕ) → Contains l a → Contains l b → a ≡ b) → length l ≡ 1
single [] x has up same = let low = has.1 in absurd (omega (arith, low))
single (a ∷ []) x has up same = refl
single (a ∷ b ∷ l) x has up same = let less : a < b = up 0 1 0 (omega arith) (omega arith) in
    let is = same a b (0, omega arith, refl) (1, omega arith, refl) in absurd (omega (arith, less, is))

module _ (plan : Plan) where
  none_before : cells_before plan zero ≡ 0
  none_before = refl

  -- a node below m is that of the cell i
  abbrev HasNodeBelow : ℕ → ℕ → Type 0
  HasNodeBelow m i = (n : ℕ) × (n < m) × (drives_somewhere plan n ≡ false) × (cells_before plan n ≡ i)

  wider : (m i : ℕ) → HasNodeBelow m i → HasNodeBelow (suc m) i
  wider m i w = let a = w.1 in (w.0, omega (arith, a), w.2, w.3)

  one_below : (m i : ℕ) → m < length plan.nodes → i < cells_before plan (m + 1) → (i < cells_before plan m → HasNodeBelow m i)
      → (b : Bool) → drives_somewhere plan m ≡ b → HasNodeBelow (suc m) i
  one_below m i low less before true is = let e = no_cell_more plan m low is in wider m i (before (omega (arith, e, less)))
  one_below m i low less before false is = let e = one_cell_more plan m low is in ⊎_elim
      (λ (early : i < cells_before plan m). wider m i (before early))
      (λ (late : cells_before plan m ≤ i). (m, omega arith, is, omega (arith, late, less, e)))
      (cases_lt i (cells_before plan m))

  next : (m : ℕ) → suc m ≡ m + 1
  next m = omega arith

  -- each cell is that of a node
  cell_there : (m : ℕ) → m ≤ length plan.nodes → (i : ℕ) → i < cells_before plan m → HasNodeBelow m i
  cell_there zero low i less = let none = none_before in absurd (omega (arith, less, none))
  cell_there (suc m) low i less = one_below m i (omega (arith, low)) (subst (λ k. i < cells_before plan k) (next m) less)
      (λ early. cell_there m (omega (arith, low)) i early) (drives_somewhere plan m) refl

  -- ONE NODE
  pub one_node : (i : ℕ) → i < cell_count plan → length (nodes_of_loop (cell_number plan) plan i) ≡ 1
  one_node i less = let f = cell_number plan in let w = cell_there (length plan.nodes) (omega arith) i less in
      single (nodes_of_loop f plan i) w.0 (is_in f plan i w.0 w.1 (own_cell plan w.0 w.2 ∙ w.3)) (nodes_ascend f plan i)
      (λ a b in_a in_b. let x = has_loop f plan i a in_a in let y = has_loop f plan i b in_b in
      one_cell plan a b (x ∙ sym y) (omega (arith, x, less)))
