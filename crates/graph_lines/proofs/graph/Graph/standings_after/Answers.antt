use Rattle.std.proofs.Common.{◌+◌, ◌<◌, ℕ, List, [], ◌∷◌, length, ap, sym, ◌∙◌, subst, length-append}
use Rattle.graph_lines.specs.declared.standing.Standing.{Standing}
use Rattle.graph_lines.specs.Activity.{standing}
use Rattle.graph_lines.specs.EpochLines.{StandsAfter}
use Rattle.graph_lines.proofs.AfterLemmas.{standings_more}
use Rattle.graph_lines.proofs.graph.Graph.standings_after.Goals as goal

pub loop-node-preserved : goal.loop-node-preserved
loop-node-preserved c = let g = c.args.self.now in let e = c.args.epoch.now in let node = c.loop-node.node in record {
  many = ap length c.in_ok-push.ensures.ok ∙ (length-append c.loop-node.nodes (c.standing_after.result ∷ [])
      ∙ ap (λ (n : ℕ). n + 1) c.loop-node.invariant.many);
  each = subst (λ (ns : List Standing). (n : ℕ) → n < node + 1 → StandsAfter g e n (standing ns n)) (sym c.in_ok-push.ensures.ok)
      (standings_more g e c.loop-node.nodes node c.standing_after.result c.loop-node.invariant.many c.loop-node.invariant.each
      c.standing_after.ensures);
}
