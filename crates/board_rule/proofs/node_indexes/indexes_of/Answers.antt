use Rattle.std.proofs.Common.{arith, ◌≡◌, ◌∙◌, ℕ, ◌<◌, ◌+◌, length-set, set, slice_index, subst, sym}
use Rattle.board_rule.specs.Layout.{index_in}
use Rattle.board_rule.proofs.activation.RowLemmas.{filled}
use Rattle.board_rule.proofs.node_indexes.indexes_of.Goals as goal

pub loop-n-preserved : goal.loop-n-preserved
loop-n-preserved c = let i = c.loop-n.invariant in let n : ℕ = c.loop-n.n in let e = c.index_in.ensures in let long = i.0 in (
  length-set c.loop-n.indexes n c.index_in.result ∙ i.0,
  subst (λ x. (k : ℕ) → k < n + 1 → slice_index (set c.loop-n.indexes n x) k ≡ index_in c.args.shape.now k) (sym e)
      (filled (index_in c.args.shape.now) c.loop-n.indexes n (omega arith) i.1),
)
