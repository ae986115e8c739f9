use Rattle.std.proofs.Common.{subst, sym, All, IsTrue}
use Rattle.std.specs.List.{list_any}
use Rattle.pw_graph.specs.Dependencies.{joins, Precedes}
use Rattle.pw_graph.specs.LinkOrder.{IsWithinNodes}
use Rattle.pw_graph.proofs.ShapeLemmas.{links_within}
use Rattle.trace_check.specs.working.NodeSets.{Loses}
use Rattle.trace_check.specs.working.Admitting.{IsSetOf}
use Rattle.trace_check.proofs.OrderLemmas.{before_driver, before_follower}
use Rattle.trace_check.proofs.order.before_node.Goals as goal

pub sources_of-requires : goal.sources_of-requires
sources_of-requires c = subst (λ links. All IsWithinNodes links) (sym c.as_slice.ensures)
    (links_within c.args.shape.now c.requires.sound.nodes c.requires.sound.links.each)

pub returns-then-node-shape : goal.returns-then-node-shape
returns-then-node-shape c = subst (λ n. IsSetOf c.without.result (λ m. Precedes c.args.shape.now m n)) (sym c.if-node-shape.true)
    (before_driver c.args.shape.now c.requires.sound c.args.active c.without.result c.requires.active
    (subst (λ n. Loses c.args.active n c.without.result) c.if-node-shape.true c.without.ensures))

pub returns-else-node-shape : goal.returns-else-node-shape
returns-else-node-shape c = before_follower c.args.shape.now c.requires.sound c.args.node c.if-node-shape.false c.sources_of.result
    (subst (λ links. IsSetOf c.sources_of.result (λ m. IsTrue (list_any (joins m c.args.node) links))) c.as_slice.ensures c.sources_of.ensures)
