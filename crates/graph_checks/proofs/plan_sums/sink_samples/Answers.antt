use Rattle.std.proofs.Common.{ap, sym, ◌∙◌}
use Rattle.std.specs.Prelude.{sum_by, filter}
use Rattle.std.proofs.lemmas.List.{take_all}
use Rattle.pw_graph.specs.PlanForms.{kind_at}
use Rattle.pw_graph.specs.PlanSums.{is_sink, form_samples, capped}
use Rattle.pw_graph.proofs.PlanSumsLemmas.{capped-zero, capped_filter_yes, capped_filter_no}
use Rattle.graph_checks.proofs.plan_sums.sink_samples.Goals as goal
use Rattle.graph_checks.proofs.plan_sums.sink_samples.Goals.{then-is_sink_at, else-is_sink_at}

pub loop-form-init : goal.loop-form-init
loop-form-init c = sym capped-zero

pub loop-form-preserved : goal.loop-form-preserved
loop-form-preserved c =
    let plan = c.args.plan.now in let xs = c.args.forms.now in let i = c.loop-form.form-index in
    elim c.if-is_sink_at.branch [
      | then-is_sink_at w ↦ capped_filter_yes (λ f. is_sink (kind_at plan f.port.node))
          (form_samples plan c.args.epoch.now) xs i _ c.loop-form-test.true (sym c.is_sink_at.ensures ∙ w.if-is_sink_at.true)
          _ _ _ c.loop-form.invariant w.form_samples.ensures (w.total-is ∙ w.capped_sum-total.ensures)
      | else-is_sink_at w ↦ capped_filter_no (λ f. is_sink (kind_at plan f.port.node))
          (form_samples plan c.args.epoch.now) xs i _ c.loop-form-test.true (sym c.is_sink_at.ensures ∙ w.if-is_sink_at.false)
          _ _ c.loop-form.invariant w.total-is
    ]

pub returns : goal.returns
returns c = c.loop-form.invariant ∙ ap (λ xs. capped
    (sum_by (form_samples c.args.plan.now c.args.epoch.now) (filter (λ f. is_sink (kind_at c.args.plan.now f.port.node)) xs)))
    (take_all c.loop-form.form-index c.args.forms.now c.loop-form-test.false)
