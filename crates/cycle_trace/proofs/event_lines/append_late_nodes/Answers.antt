use Rattle.std.proofs.Common.{◌∙◌, ap, List, ℕ, ◌++◌, ◌∷◌, arith, map}
use Rattle.cycle_trace.specs.NodeNames.{node_name}
use Rattle.cycle_trace.specs.Words.{spaced}
use Rattle.cycle_trace.proofs.TextLemmas.{late_below-all, late_named, late_skipped}
use Rattle.cycle_trace.proofs.event_lines.append_late_nodes.Goals as goal
use Rattle.cycle_trace.proofs.event_lines.append_late_nodes.Goals.{then-late-n-eq1+in_ok-append_word, else-late-n-eq1}

pub loop-n-preserved : goal.loop-n-preserved
loop-n-preserved c = elim c.if-late-n-eq1.branch [
  | then-late-n-eq1+in_ok-append_word w ↦ late_named
      (node_name c.args.names.now) c.args.text.now c.loop-n.text _ c.args.late c.loop-n.n c.loop-n.invariant w.if-late-n-eq1.true
      (w.text-is ∙ w.in_ok-append_word.ensures ∙ ap (λ (name : List ℕ). c.loop-n.text ++ (32 ∷ name)) w.name_of.ensures)
  | else-late-n-eq1 w ↦ w.text-is ∙ late_skipped (node_name c.args.names.now)
      c.args.text.now c.loop-n.text c.args.late c.loop-n.n c.loop-n.invariant w.if-late-n-eq1.false
]

pub returns : goal.returns
returns c = c.loop-n.invariant ∙ ap (λ (ns : List ℕ). c.args.text.now ++ spaced (map (node_name c.args.names.now) ns))
    (late_below-all c.args.late c.loop-n.n (omega arith))
