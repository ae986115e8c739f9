use Rattle.std.proofs.Common.{ap, sym, ◌∙◌}
use Rattle.std.specs.Prelude.{sum_by}
use Rattle.std.proofs.lemmas.List.{take_all}
use Rattle.pw_graph.specs.PlanSums.{link_bytes, capped}
use Rattle.pw_graph.proofs.PlanSumsLemmas.{capped-zero, capped_sum_more}
use Rattle.graph_checks.proofs.plan_sums.all_link_bytes.Goals as goal

pub loop-link-init : goal.loop-link-init
loop-link-init c = sym capped-zero

pub loop-link-preserved : goal.loop-link-preserved
loop-link-preserved c =
    capped_sum_more (link_bytes c.args.plan.now)
    c.args.links.now c.loop-link.link-index _ c.loop-link-test.true _ _ _ c.loop-link.invariant c.link_bytes.ensures
    c.capped_sum-total.ensures

pub returns : goal.returns
returns c = c.loop-link.invariant ∙ ap (λ xs. capped (sum_by (link_bytes c.args.plan.now) xs))
    (take_all c.loop-link.link-index c.args.links.now c.loop-link-test.false)
