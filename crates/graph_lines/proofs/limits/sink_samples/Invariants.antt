-- The samples of the forms so far.
use Rattle.std.proofs.Common.{◌≡◌, take}
use Rattle.std.specs.Prelude.{sum_by, filter}
use Rattle.pw_graph.specs.PlanSums.{capped}
use Rattle.graph_lines.specs.Sums.{form_samples, is_sink_form}
use Rattle.graph_lines.proofs.limits.sink_samples.Given as goal

abbrev pub invariant-loop-form : goal.invariant-loop-form
invariant-loop-form l = l.total ≡ capped (sum_by (form_samples l.epoch) (filter (is_sink_form l.kinds) (take l.form-index l.form-items)))
