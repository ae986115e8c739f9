use Rattle.std.proofs.Common.{◌≡◌, ◌*◌, ap, ◌∙◌}
use Rattle.pw_graph.specs.Pools.{asked}
use Rattle.pw_graph.specs.PlanSums.{capped}
use Rattle.pw_graph.proofs.PlanSumsLemmas.{capped-mul}
use Rattle.graph_lines.proofs.limits.link_bytes.Goals as goal

pub returns : goal.returns
returns c =
    let q = c.args.epoch.now.shape.quantum in let l = c.args.link.now in
    let block : c.product_of.result ≡ capped (q * (l.channels * 2)) =
    c.product_of.ensures ∙ ap (λ k. capped (k * (c.from-3.result * 2))) c.from-2.ensures
    ∙ ap (λ k. capped (q * (k * 2))) c.from-3.ensures in
    c.product_of-2.ensures ∙ ap (λ k. capped (k * c.product_of.result)) (c.from.ensures ∙ c.asked.ensures)
    ∙ ap (λ k. capped (asked l * k)) block ∙ capped-mul (asked l) (q * (l.channels * 2))
