use Rattle.std.proofs.Common.{◌∷◌, ◌++◌, [], List, sym, ap, ◌∙◌}
use Rattle.pw_graph.specs.declared.kind.Kind.{Kind}
use Rattle.graph_lines.proofs.StartLemmas.{kinds_some, kinds_none}
use Rattle.graph_lines.proofs.starting.kinds_of.Goals as goal
use Rattle.graph_lines.proofs.starting.kinds_of.Goals.{in-Some+in_ok-push-in-Some, in-None}

pub loop-line-preserved : goal.loop-line-preserved
loop-line-preserved c = elim c.match-branch-2.branch [
  | in-Some+in_ok-push-in-Some w ↦ w.kinds-is ∙ (w.in_ok-push-in-Some.ensures.ok
      ∙ (ap (λ (ks : List Kind). ks ++ w.in-Some.kind ∷ []) c.loop-line.invariant
      ∙ sym (kinds_some c.args.lines.now c.loop-line.line-index c.line-item.result c.loop-line-test.true c.line-item.is c.in_ok-kind.field-0
      w.in-Some.kind c.in_ok-kind.ensures w.in-Some.is)))
  | in-None w ↦ w.kinds-is ∙ (c.loop-line.invariant
      ∙ sym (kinds_none c.args.lines.now c.loop-line.line-index c.line-item.result c.loop-line-test.true c.line-item.is c.in_ok-kind.field-0
      c.in_ok-kind.ensures w.in-None.is))
]
