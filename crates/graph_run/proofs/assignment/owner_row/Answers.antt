use Rattle.std.proofs.Common.{◌∙◌, ℕ, List, [], ◌∷◌, ◌++◌, sym, ap, zero-add}
use Rattle.std.proofs.lemmas.List.FromFn.{map-range_with_len_more}
use Rattle.graph_run.specs.Assignment.{loop_of}
use Rattle.graph_run.proofs.assignment.owner_row.Goals as goal

pub loop-node-preserved : goal.loop-node-preserved
loop-node-preserved c = let n = c.loop-node.node in c.in_ok-push.ensures.ok
    ∙ (ap (λ (x : List ℕ × ℕ). x.0 ++ x.1 ∷ []) (λ j. (c.loop-node.invariant j, c.loop_of.ensures.is j))
    ∙ sym (map-range_with_len_more (loop_of c.args.plan.now c.args.loops) 0 n n (zero-add n)))
