use Rattle.std.proofs.Common.{◌∙◌, ap, List, ℕ, ◌++◌, arith, map}
use Rattle.cycle_trace.specs.Words.{spaced}
use Rattle.cycle_trace.proofs.TextLemmas.{late_below-all, late_named, late_skipped}
use Rattle.fault_messages.specs.NodeNames.{node_word}
use Rattle.fault_messages.proofs.event_words.put_late.Goals as goal
use Rattle.fault_messages.proofs.event_words.put_late.Goals.{then-late-n-eq1+in_ok-put_spaced, else-late-n-eq1}

pub loop-n-preserved : goal.loop-n-preserved
loop-n-preserved c = elim c.if-late-n-eq1.branch [
  | then-late-n-eq1+in_ok-put_spaced w ↦ late_named
      (node_word c.args.names.now) c.args.text.now c.loop-n.text _ c.args.late c.loop-n.n c.loop-n.invariant w.if-late-n-eq1.true
      (w.text-is ∙ w.in_ok-put_spaced.ensures)
  | else-late-n-eq1 w ↦ w.text-is ∙ late_skipped (node_word c.args.names.now)
      c.args.text.now c.loop-n.text c.args.late c.loop-n.n c.loop-n.invariant w.if-late-n-eq1.false
]

pub returns : goal.returns
returns c = c.loop-n.invariant ∙ ap (λ (ns : List ℕ). c.args.text.now ++ spaced (map (node_word c.args.names.now) ns))
    (late_below-all c.args.late c.loop-n.n (omega arith))
