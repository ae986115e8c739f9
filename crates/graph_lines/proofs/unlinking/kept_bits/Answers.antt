use Rattle.std.proofs.Common.{arith, sym, subst, ◌∙◌, ◌+◌, ℕ}
use Rattle.graph_lines.proofs.BitLemmas.{HasKeptBelow, kept_more, kept_same}
use Rattle.graph_lines.proofs.unlinking.kept_bits.Goals as goal
use Rattle.graph_lines.proofs.unlinking.kept_bits.Goals.{then-is_kept, else-is_kept}

pub loop-n-preserved : goal.loop-n-preserved
loop-n-preserved c = elim c.if-is_kept.branch [
  | then-is_kept w ↦ subst (λ (keep : ℕ). HasKeptBelow c.args.nodes.now (c.loop-n.n + 1) keep) (sym w.keep-is)
      (kept_more c.args.nodes.now c.loop-n.n c.loop-n.keep w.with_bit-keep.result (omega arith) (sym c.is_kept.ensures ∙ w.if-is_kept.true)
      w.with_bit-keep.ensures.here w.with_bit-keep.ensures.others c.loop-n.invariant)
  | else-is_kept w ↦ subst (λ (keep : ℕ). HasKeptBelow c.args.nodes.now (c.loop-n.n + 1) keep) (sym w.keep-is)
      (kept_same c.args.nodes.now c.loop-n.n c.loop-n.keep (omega arith) (sym c.is_kept.ensures ∙ w.if-is_kept.false) c.loop-n.invariant)
]
