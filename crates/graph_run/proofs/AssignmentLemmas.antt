-- Each node has one of the loops, and the nodes of a loop are found one after the other.
use Rattle.std.proofs.Common.{◌≡◌, ℕ, suc, zero, ◌+◌, ◌≤◌, ◌%◌, ◌||◌, Bool, true, false, cond, List, [], ◌∷◌, ◌++◌, get_or, sym, ap, ◌∙◌, subst, arith, zero-add, append-nil}
use Rattle.std.specs.Prelude.{filter}
use Rattle.std.specs.List.{range_with_len}
use Rattle.std.proofs.lemmas.Bool.{ne_eqb}
use Rattle.std.proofs.lemmas.Nat.{mod_below}
use Rattle.std.proofs.lemmas.List.{length-map, get_or-map, map-id}
use Rattle.std.proofs.lemmas.List.Elements.{filter-append}
use Rattle.std.proofs.lemmas.List.FromFn.{map-range_with_len_more}
use Rattle.pw_graph.specs.declared.shape.ShapeNode.{ShapeNode}
use Rattle.pw_graph.specs.declared.plan.Epoch.{Epoch}
use Rattle.pw_graph.specs.declared.plan.Plan.{Plan}
use Rattle.board_rule.specs.Layout.{HasSeats}
use Rattle.graph_run.specs.Assignment.{drives_somewhere, loop_number, loop_of}
use Rattle.graph_run.specs.Seating.{epoch_board}

-- one number more
counting_more : (n : ℕ) → range_with_len 0 (n + 1) ≡ range_with_len 0 n ++ n ∷ []
counting_more n = sym (map-id (range_with_len 0 (n + 1))) ∙ (map-range_with_len_more (λ k. k) 0 n n (zero-add n)
    ∙ ap (λ (l : List ℕ). l ++ n ∷ []) (map-id (range_with_len 0 n)))

module _ (p : ℕ → Bool) (n : ℕ) where
  filter_more : filter p (range_with_len 0 (n + 1)) ≡ filter p (range_with_len 0 n) ++ cond (p n) (n ∷ []) []
  filter_more = ap (filter p) (counting_more n) ∙ filter-append p (range_with_len 0 n) (n ∷ [])

  pub filter_yes : p n ≡ true → filter p (range_with_len 0 (n + 1)) ≡ filter p (range_with_len 0 n) ++ n ∷ []
  filter_yes e = filter_more ∙ ap (λ b. filter p (range_with_len 0 n) ++ cond b (n ∷ []) []) e

  pub filter_no : p n ≡ false → filter p (range_with_len 0 (n + 1)) ≡ filter p (range_with_len 0 n)
  filter_no e = filter_more ∙ (ap (λ b. filter p (range_with_len 0 n) ++ cond b (n ∷ []) []) e ∙ append-nil (filter p (range_with_len 0 n)))

-- no loop is above the driver's own
pub most_loop : (plan : Plan) (loops n : ℕ) → loop_of plan loops n ≤ loops
most_loop plan zero n = omega arith
most_loop plan (suc loops) n =
    subst (λ b. cond (b || drives_somewhere plan n) (suc loops) (loop_number plan n % suc loops) ≤ suc loops)
    (sym (ne_eqb (suc loops) 0 (λ e. omega (arith, e)))) (go (drives_somewhere plan n)) where
      go : (b : Bool) → cond b (suc loops) (loop_number plan n % suc loops) ≤ suc loops
      go true = omega arith
      go false = omega (arith, mod_below (loop_number plan n) (suc loops) (omega arith))

-- the seats of an epoch's board
pub has_seats : (f : ℕ → ℕ) (loops : ℕ) → ((n : ℕ) → f n ≤ loops) → (e : Epoch) → HasSeats (epoch_board f loops e)
has_seats f loops most e = record {
  some_seats = omega arith;
  all = length-map e.shape.nodes (λ n. f n.node);
  each = λ n lt other. let none : ShapeNode = record { node = 0; required = 0; targets = [] } in
      let is = get_or-map (λ (x : ShapeNode). f x.node) e.shape.nodes n none 0 lt in
      let le = most (get_or e.shape.nodes n none).node in omega (arith, is, le);
}
