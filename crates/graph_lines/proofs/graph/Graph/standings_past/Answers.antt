use Rattle.std.proofs.Common.{◌∷◌, ◌++◌, [], List, sym, ap, ◌∙◌, zero-add}
use Rattle.std.proofs.lemmas.List.FromFn.{map-range_with_len_more}
use Rattle.graph_lines.specs.declared.standing.Standing.{Standing}
use Rattle.graph_lines.specs.Rehearsal.{standing_past}
use Rattle.graph_lines.proofs.graph.Graph.standings_past.Goals as goal

pub loop-node-preserved : goal.loop-node-preserved
loop-node-preserved c =
    let g = c.args.self.now in let e = c.args.epoch.now in let node = c.loop-node.node in
    c.in_ok-push.ensures.ok ∙ (ap (λ (s : Standing). c.loop-node.nodes ++ s ∷ []) c.standing_past.ensures
    ∙ (ap (λ (ns : List Standing). ns ++ standing_past g e node ∷ []) c.loop-node.invariant
    ∙ sym (map-range_with_len_more (standing_past g e) 0 node node (zero-add node))))
