use Rattle.std.proofs.Common.{IsTrue, take, get_or, false, ◌+◌, sym, subst}
use Rattle.std.specs.List.{list_any}
use Rattle.pw_graph.specs.declared.shape.ShapeLink.{ShapeLink}
use Rattle.pw_graph.specs.Dependencies.{joins}
use Rattle.trace_check.specs.working.Admitting.{IsSetOf}
use Rattle.trace_check.proofs.OrderLemmas.{link_more, link_other, delayed_joins_none, other_joins_none}
use Rattle.trace_check.proofs.order.sources_of.Goals as goal
use Rattle.trace_check.proofs.order.sources_of.Goals.{then-not-link+then-link-node, else-not-link, else-not-link-via-then-not-link+else-link-node, else-not-link-via-else-not-link}

pub loop-link-preserved : goal.loop-link-preserved
loop-link-preserved c =
    let links = c.args.links.now in let i = c.loop-link.link-index in let old = c.loop-link.set in let n = c.args.node in
    let lt = c.loop-link-test.true in
    let d : ShapeLink = record { from = record { node = 0; port = 0 }; to = record { node = 0; port = 0 }; channels = 0; buffers = 0; delayed = false } in
    elim c.if-not-link.branch [
      | then-not-link+then-link-node w ↦ subst (λ s. IsSetOf s (λ m. IsTrue (list_any (joins m n) (take (i + 1) links)))) (sym w.set-is)
          (link_more links i d old n lt c.loop-link.invariant w.with-set.result w.if-not-link.true w.if-link-node.true w.with-set.ensures)
      | else-not-link w ↦ subst (λ s. IsSetOf s (λ m. IsTrue (list_any (joins m n) (take (i + 1) links)))) (sym w.set-is)
          (elim w.else-not-link.branch [
            | else-not-link-via-then-not-link+else-link-node v ↦ link_other links i d old n lt c.loop-link.invariant
                (λ m. other_joins_none (get_or links i d) n m v.if-link-node.false)
            | else-not-link-via-else-not-link v ↦ link_other links i d old n lt c.loop-link.invariant
                (λ m. delayed_joins_none (get_or links i d) n m v.if-not-link.false)
          ])
    ]
