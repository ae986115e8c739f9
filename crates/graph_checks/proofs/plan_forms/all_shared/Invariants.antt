use Rattle.std.proofs.Common.{ℕ, ◌<◌, get_or}
use Rattle.pw_graph.specs.declared.plan.PortForm.{PortForm}
use Rattle.pw_graph.specs.PlanForms.{AreShared}
use Rattle.graph_checks.proofs.plan_forms.all_shared.Given as goal

abbrev pub invariant-loop-i : goal.invariant-loop-i
invariant-loop-i l = (j k : ℕ) (d : PortForm) → j < k → k < l.i → AreShared l.plan (get_or l.forms j d) (get_or l.forms k d)
