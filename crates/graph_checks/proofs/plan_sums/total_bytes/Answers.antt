use Rattle.std.proofs.Common.{ap, sym, ◌∙◌}
use Rattle.std.specs.Prelude.{sum_by}
use Rattle.std.proofs.lemmas.List.{take_all}
use Rattle.pw_graph.specs.PlanSums.{epoch_bytes, capped}
use Rattle.pw_graph.proofs.PlanSumsLemmas.{capped-zero, capped_sum_more}
use Rattle.graph_checks.proofs.plan_sums.total_bytes.Goals as goal

pub loop-epoch-init : goal.loop-epoch-init
loop-epoch-init c = sym capped-zero

pub loop-epoch-preserved : goal.loop-epoch-preserved
loop-epoch-preserved c =
    capped_sum_more (epoch_bytes c.args.plan.now)
    c.args.epochs.now c.loop-epoch.epoch-index c.epoch-item.result c.loop-epoch-test.true _ _ _ c.loop-epoch.invariant
    (c.epoch_bytes.ensures ∙ ap (λ x. capped (epoch_bytes c.args.plan.now x)) c.epoch-item.is) c.capped_sum-total.ensures

pub returns : goal.returns
returns c = c.loop-epoch.invariant ∙ ap (λ xs. capped (sum_by (epoch_bytes c.args.plan.now) xs))
    (take_all c.loop-epoch.epoch-index c.args.epochs.now c.loop-epoch-test.false)
