use Rattle.std.proofs.Common.{subst, sym, IsTrue, ◌↔◌}
use Rattle.std.specs.Prelude.{Contains}
use Rattle.pw_graph.specs.Dependencies.{nodes_of}
use Rattle.pw_graph.proofs.ShapeLemmas.{Decides-contains_mapped}
use Rattle.graph_checks.proofs.dependencies.has_node.Goals as goal

pub returns : goal.returns
returns c =
    subst (λ b. IsTrue b ↔ Contains (nodes_of c.args.shape.now) c.args.n) (sym c.is_among.ensures)
    (Decides-contains_mapped (λ m. m.node) c.args.shape.now.nodes c.args.n)
