use Rattle.std.proofs.Common.{ap, sym, ◌∙◌, length, subst, ◌≤◌}
use Rattle.std.specs.List.{count_by}
use Rattle.std.specs.Prelude.{List}
use Rattle.std.proofs.lemmas.List.{take_all}
use Rattle.pw_graph.specs.declared.shape.ShapeNode.{ShapeNode}
use Rattle.pw_graph.specs.Dependencies.{waits}
use Rattle.pw_graph.proofs.ShapeLemmas.{length_filter_mapped}
use Rattle.graph_lines.proofs.shaping.counting.required_of.Goals as goal

pub returns : goal.returns
returns c = c.loop-m.invariant
    ∙ (ap (λ nodes. count_by (λ m. waits c.args.shape.now c.args.node m.node) nodes) (take_all c.loop-m.m-index c.args.shape.now.nodes
    (subst (λ (ns : List ShapeNode). length ns ≤ c.loop-m.m-index) c.as_slice-m-items.ensures c.loop-m-test.false))
    ∙ sym (length_filter_mapped (waits c.args.shape.now c.args.node) (λ m. m.node) c.args.shape.now.nodes))
