use Rattle.std.proofs.Common.{◌<◌, ◌+◌, ◌∙◌, length, sym, ap, arith}
use Rattle.graph_run.proofs.SeatingLemmas.{one_cell_more, no_cell_more}
use Rattle.graph_run.proofs.seating.count_cells.Goals as goal
use Rattle.graph_run.proofs.seating.count_cells.Goals.{then-not-drives_somewhere, else-not-drives_somewhere}

pub loop-node-preserved : goal.loop-node-preserved
loop-node-preserved c = let plan = c.args.plan.now in let n = c.loop-node.node in let i = c.loop-node.invariant in let before = i.low in
    let test = c.loop-node-test.true in let end = c.len-node-end.ensures in let low : n < length plan.nodes = omega (arith, test, end) in
    elim c.if-not-drives_somewhere.branch [
      | then-not-drives_somewhere w ↦ let is = w.cells-is in record {
        cells = w.cells-is ∙ (ap (λ k. k + 1) i.cells
            ∙ sym (one_cell_more plan n low (sym c.drives_somewhere.ensures ∙ w.if-not-drives_somewhere.true)));
        low = omega (arith, is, before);
      }
      | else-not-drives_somewhere w ↦ let is = w.cells-is in record {
        cells = w.cells-is ∙ (i.cells
            ∙ sym (no_cell_more plan n low (sym c.drives_somewhere.ensures ∙ w.if-not-drives_somewhere.false)));
        low = omega (arith, is, before);
      }
    ]
