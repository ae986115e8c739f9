use Rattle.std.proofs.Common.{◌≡◌, ◌*◌, ap, ◌∙◌}
use Rattle.pw_graph.specs.Pools.{asked}
use Rattle.pw_graph.specs.PlanSums.{capped}
use Rattle.pw_graph.proofs.PlanSumsLemmas.{capped-mul}
use Rattle.graph_checks.proofs.plan_sums.link_bytes.Goals as goal

pub returns : goal.returns
returns c =
    let q = c.args.plan.now.quantum in let l = c.args.link.now in
    let block : c.capped_product.result ≡ capped (q * (l.channels * 2)) =
    c.capped_product.ensures ∙ ap (λ k. capped (k * (c.from-3.result * 2))) c.from-2.ensures
    ∙ ap (λ k. capped (q * (k * 2))) c.from-3.ensures in
    c.capped_product-2.ensures ∙ ap (λ k. capped (k * c.capped_product.result)) (c.from.ensures ∙ c.asked.ensures)
    ∙ ap (λ k. capped (asked l * k)) block ∙ capped-mul (asked l) (q * (l.channels * 2))
