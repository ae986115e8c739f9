use Rattle.std.proofs.Common.{ap, ◌∙◌, ◌==◌}
use Rattle.std.specs.List.{list_any}
use Rattle.pw_graph.specs.declared.shape.ShapeNode.{ShapeNode}
use Rattle.graph_lines.proofs.CountingLemmas.{any_number}
use Rattle.graph_lines.proofs.taking.has_node.Goals as goal

pub returns : goal.returns
returns c = c.any_node.ensures ∙ (ap (list_any (λ (m : ShapeNode). m.node == c.args.node)) c.as_slice.ensures
    ∙ any_number c.args.shape.now.nodes c.args.node)
