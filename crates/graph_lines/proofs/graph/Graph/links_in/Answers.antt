use Rattle.std.proofs.Common.{◌+◌, List, ap, sym, ◌∙◌, subst, take, get_or}
use Rattle.std.specs.Prelude.{filter}
use Rattle.std.specs.List.{AllZip}
use Rattle.pw_graph.specs.declared.shape.ShapeLink.{ShapeLink}
use Rattle.graph_lines.specs.declared.standing.Standing.{Standing}
use Rattle.graph_lines.specs.Epochs.{IsLinkOf}
use Rattle.graph_lines.specs.Gathering.{is_used_in}
use Rattle.graph_lines.proofs.EpochLemmas.{no_wire, link_more, link_not}
use Rattle.graph_lines.proofs.graph.Graph.links_in.Goals as goal
use Rattle.graph_lines.proofs.graph.Graph.links_in.Goals.{then-is_used_in+in_ok-push, else-is_used_in}

pub loop-wire-preserved : goal.loop-wire-preserved
loop-wire-preserved c = let g = c.args.self.now in let here = c.args.here.now in let i = c.loop-wire.wire-index in
    elim c.if-is_used_in.branch [
      | then-is_used_in+in_ok-push w ↦ subst (λ (ls : List ShapeLink). AllZip (IsLinkOf g) (filter (is_used_in g.nodes here) (take (i + 1) g.wires)) ls)
          (sym (w.links-is ∙ w.in_ok-push.ensures.ok))
          (link_more g here c.as_slice-wire-items.result.now c.as_slice-wire-items.ensures i no_wire c.loop-wire-test.true c.loop-wire.links
          c.loop-wire.invariant (ap (λ (ns : List Standing). is_used_in ns here (get_or c.as_slice-wire-items.result.now i no_wire)) (sym c.as_slice.ensures)
          ∙ (sym c.is_used_in.ensures ∙ w.if-is_used_in.true)) w.link_in.result w.link_in.ensures)
      | else-is_used_in w ↦ subst (λ (ls : List ShapeLink). AllZip (IsLinkOf g) (filter (is_used_in g.nodes here) (take (i + 1) g.wires)) ls)
          (sym w.links-is)
          (link_not g here c.as_slice-wire-items.result.now c.as_slice-wire-items.ensures i no_wire c.loop-wire-test.true c.loop-wire.links
          c.loop-wire.invariant (ap (λ (ns : List Standing). is_used_in ns here (get_or c.as_slice-wire-items.result.now i no_wire)) (sym c.as_slice.ensures)
          ∙ (sym c.is_used_in.ensures ∙ w.if-is_used_in.false)))
    ]
