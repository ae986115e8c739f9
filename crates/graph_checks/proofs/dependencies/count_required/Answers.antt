use Rattle.std.proofs.Common.{sym, ◌∙◌}
use Rattle.pw_graph.specs.Dependencies.{waits}
use Rattle.pw_graph.proofs.ShapeLemmas.{length_filter_mapped}
use Rattle.graph_checks.proofs.dependencies.count_required.Goals as goal

pub returns : goal.returns
returns c = c.count_waiting.ensures ∙ sym (length_filter_mapped (waits c.args.shape.now c.args.n) (λ m. m.node) c.args.shape.now.nodes)
