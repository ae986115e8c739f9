use Rattle.std.proofs.Common.{ℕ, ◌<◌, IsTrue, get_or}
use Rattle.pw_graph.specs.declared.plan.PortForm.{PortForm}
use Rattle.pw_graph.specs.Pools.{is_before}
use Rattle.graph_checks.proofs.plan_forms.forms_ascend.Given as goal

abbrev pub invariant-loop-i : goal.invariant-loop-i
invariant-loop-i l = (j k : ℕ) (d : PortForm) → j < k → k < l.i → IsTrue (is_before (get_or l.forms j d).port (get_or l.forms k d).port)
