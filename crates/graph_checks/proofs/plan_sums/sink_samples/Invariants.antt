use Rattle.std.proofs.Common.{◌≡◌, take}
use Rattle.std.specs.Prelude.{sum_by, filter}
use Rattle.pw_graph.specs.PlanForms.{kind_at}
use Rattle.pw_graph.specs.PlanSums.{is_sink, form_samples, capped}
use Rattle.graph_checks.proofs.plan_sums.sink_samples.Given as goal

abbrev pub invariant-loop-form : goal.invariant-loop-form
invariant-loop-form l = l.total ≡ capped (sum_by (form_samples l.plan l.epoch)
    (filter (λ f. is_sink (kind_at l.plan f.port.node)) (take l.form-index l.forms)))
