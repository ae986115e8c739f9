use Rattle.std.proofs.Common.{ap, sym, ◌∙◌}
use Rattle.std.specs.Prelude.{sum_by, filter}
use Rattle.std.proofs.lemmas.List.{take_all}
use Rattle.pw_graph.specs.PlanSums.{capped}
use Rattle.pw_graph.proofs.PlanSumsLemmas.{capped-zero, capped_filter_yes, capped_filter_no}
use Rattle.graph_lines.specs.Sums.{form_samples, is_sink_form}
use Rattle.graph_lines.proofs.limits.sink_samples.Goals as goal
use Rattle.graph_lines.proofs.limits.sink_samples.Goals.{then-is_sink_form, else-is_sink_form}

pub loop-form-init : goal.loop-form-init
loop-form-init c = sym capped-zero

pub loop-form-preserved : goal.loop-form-preserved
loop-form-preserved c =
    let xs = c.as_slice-form-items.result.now in let i = c.loop-form.form-index in
    elim c.if-is_sink_form.branch [
      | then-is_sink_form w ↦ capped_filter_yes (is_sink_form c.args.kinds.now) (form_samples c.args.epoch.now) xs i _ c.loop-form-test.true
          (sym c.is_sink_form.ensures ∙ w.if-is_sink_form.true) _ _ _ c.loop-form.invariant w.form_samples.ensures
          (w.total-is ∙ w.sum_of-total.ensures)
      | else-is_sink_form w ↦ capped_filter_no (is_sink_form c.args.kinds.now) (form_samples c.args.epoch.now) xs i _ c.loop-form-test.true
          (sym c.is_sink_form.ensures ∙ w.if-is_sink_form.false) _ _ c.loop-form.invariant w.total-is
    ]

pub returns : goal.returns
returns c = c.loop-form.invariant
    ∙ (ap (λ xs. capped (sum_by (form_samples c.args.epoch.now) (filter (is_sink_form c.args.kinds.now) xs)))
    (take_all c.loop-form.form-index c.as_slice-form-items.result.now c.loop-form-test.false)
    ∙ ap (λ xs. capped (sum_by (form_samples c.args.epoch.now) (filter (is_sink_form c.args.kinds.now) xs))) c.as_slice-form-items.ensures)
