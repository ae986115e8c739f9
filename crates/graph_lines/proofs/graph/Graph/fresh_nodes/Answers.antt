use Rattle.std.proofs.Common.{◌+◌, List, sym, ◌∙◌, subst}
use Rattle.pw_graph.specs.declared.plan.Fresh.{Fresh}
use Rattle.graph_lines.specs.Gathering.{HasFreshBelow}
use Rattle.graph_lines.proofs.FreshLemmas.{fresh_more, fresh_none, not_both}
use Rattle.graph_lines.proofs.graph.Graph.fresh_nodes.Goals as goal
use Rattle.graph_lines.proofs.graph.Graph.fresh_nodes.Goals.{then-is_fresh+in_ok-push, else-is_fresh}

pub loop-node-preserved : goal.loop-node-preserved
loop-node-preserved c = let g = c.args.self.now in let node = c.loop-node.node in let channels = c.channels_in-channels.result in
    elim c.if-is_fresh.branch [
      | then-is_fresh+in_ok-push w ↦ subst (λ (fs : List Fresh). HasFreshBelow g (node + 1) fs) (sym (w.fresh-is ∙ w.in_ok-push.ensures.ok))
          (fresh_more g node c.loop-node.fresh c.loop-node.invariant channels c.channels_in-channels.ensures.channels
          c.channels_in-channels.ensures.only (c.is_fresh.ensures.0 w.if-is_fresh.true))
      | else-is_fresh w ↦ subst (λ (fs : List Fresh). HasFreshBelow g (node + 1) fs) (sym w.fresh-is)
          (fresh_none g node c.loop-node.fresh c.loop-node.invariant channels c.channels_in-channels.ensures.channels
          c.channels_in-channels.ensures.only (λ f. not_both c.is_fresh.result (c.is_fresh.ensures.1 f) w.if-is_fresh.false))
    ]
