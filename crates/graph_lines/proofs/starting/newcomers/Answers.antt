use Rattle.std.proofs.Common.{◌∷◌, ◌++◌, [], List, sym, ap, ◌∙◌}
use Rattle.graph_lines.specs.declared.standing.Standing.{Standing}
use Rattle.graph_lines.specs.Start.{newcomer}
use Rattle.graph_lines.proofs.StartLemmas.{newcomers_more}
use Rattle.graph_lines.proofs.starting.newcomers.Goals as goal

pub loop-node-preserved : goal.loop-node-preserved
loop-node-preserved c = c.in_ok-push.ensures.ok ∙ (ap (λ (s : Standing). c.loop-node.nodes ++ s ∷ []) c.newcomer.ensures
    ∙ (ap (λ (ns : List Standing). ns ++ newcomer c.loop-node.node ∷ []) c.loop-node.invariant ∙ sym (newcomers_more c.loop-node.node)))
