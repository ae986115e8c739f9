use Rattle.std.proofs.Common.{◌≡◌, ◌+◌, ◌*◌, length, ap, ◌∙◌}
use Rattle.pw_graph.specs.PlanSums.{capped}
use Rattle.pw_graph.proofs.PlanSumsLemmas.{capped-mul, capped-add_left}
use Rattle.graph_checks.proofs.plan_sums.epoch_events.Goals as goal

pub returns : goal.returns
returns c =
    let cycles = c.args.epoch.now.shape.cycles in let n = length c.args.epoch.now.shape.nodes in
    let two : c.capped_product.result ≡ capped (2 * n) = c.capped_product.ensures ∙ ap (λ k. capped (2 * k)) c.len-nodes.ensures in
    let three : c.capped_sum.result ≡ capped (2 * n + 3) = c.capped_sum.ensures ∙ ap (λ k. capped (k + 3)) two
    ∙ capped-add_left (2 * n) 3 in
    c.capped_product-2.ensures ∙ ap (λ k. capped (k * c.capped_sum.result)) c.from.ensures ∙ ap (λ k. capped (cycles * k)) three
    ∙ capped-mul cycles (2 * n + 3)
