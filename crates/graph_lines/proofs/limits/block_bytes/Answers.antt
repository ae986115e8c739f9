use Rattle.std.proofs.Common.{ap, sym, ◌∙◌}
use Rattle.std.specs.Prelude.{sum_by}
use Rattle.std.proofs.lemmas.List.{take_all}
use Rattle.pw_graph.specs.PlanSums.{capped}
use Rattle.pw_graph.proofs.PlanSumsLemmas.{capped-zero, capped_sum_more}
use Rattle.graph_lines.specs.Sums.{link_bytes}
use Rattle.graph_lines.proofs.limits.block_bytes.Goals as goal

pub loop-link-init : goal.loop-link-init
loop-link-init c = sym capped-zero

pub loop-link-preserved : goal.loop-link-preserved
loop-link-preserved c = capped_sum_more (link_bytes c.args.epoch.now) c.as_slice-link-items.result.now c.loop-link.link-index _
    c.loop-link-test.true _ _ _ c.loop-link.invariant c.link_bytes.ensures c.sum_of-total.ensures

pub returns : goal.returns
returns c = c.loop-link.invariant ∙ (ap (λ xs. capped (sum_by (link_bytes c.args.epoch.now) xs))
    (take_all c.loop-link.link-index c.as_slice-link-items.result.now c.loop-link-test.false)
    ∙ ap (λ xs. capped (sum_by (link_bytes c.args.epoch.now) xs)) c.as_slice-link-items.ensures)
