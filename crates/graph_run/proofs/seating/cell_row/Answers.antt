use Rattle.std.proofs.Common.{◌<◌, ◌+◌, ◌∙◌, ℕ, List, [], ◌∷◌, ◌++◌, length, sym, ap, arith, zero-add}
use Rattle.std.proofs.lemmas.List.FromFn.{map-range_with_len_more}
use Rattle.graph_run.specs.Assignment.{cell_number}
use Rattle.graph_run.proofs.SeatingLemmas.{one_cell_more, no_cell_more, driver_cell, own_cell}
use Rattle.graph_run.proofs.seating.cell_row.Goals as goal
use Rattle.graph_run.proofs.seating.cell_row.Goals.{then-drives_somewhere+in_ok-push, else-drives_somewhere+in_ok-push-2}

pub loop-node-preserved : goal.loop-node-preserved
loop-node-preserved c = let plan = c.args.plan.now in let n = c.loop-node.node in let i = c.loop-node.invariant in let before = i.low in
    let test = c.loop-node-test.true in let end = c.len-node-end.ensures in let low : n < length plan.nodes = omega (arith, test, end) in
    let more = sym (map-range_with_len_more (cell_number plan) 0 n n (zero-add n)) in
    elim c.if-drives_somewhere.branch [
      | then-drives_somewhere+in_ok-push w ↦ let is = w.next-is in
          let drives = sym c.drives_somewhere.ensures ∙ w.if-drives_somewhere.true in record {
            row = w.row-is ∙ (w.in_ok-push.ensures.ok ∙ (ap (λ (x : List ℕ × ℕ). x.0 ++ x.1 ∷ [])
                (λ j. (i.row j, (c.requires.cells ∙ sym (driver_cell plan n drives)) j)) ∙ more));
            next = w.next-is ∙ (i.next ∙ sym (no_cell_more plan n low drives));
            low = omega (arith, is, before);
          }
      | else-drives_somewhere+in_ok-push-2 w ↦ let is = w.next-is in
          let none = sym c.drives_somewhere.ensures ∙ w.if-drives_somewhere.false in record {
            row = w.row-is ∙ (w.in_ok-push-2.ensures.ok ∙ (ap (λ (x : List ℕ × ℕ). x.0 ++ x.1 ∷ [])
                (λ j. (i.row j, (i.next ∙ sym (own_cell plan n none)) j)) ∙ more));
            next = w.next-is ∙ (ap (λ k. k + 1) i.next ∙ sym (one_cell_more plan n low none));
            low = omega (arith, is, before);
          }
    ]
