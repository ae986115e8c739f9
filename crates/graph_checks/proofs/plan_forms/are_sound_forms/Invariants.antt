use Rattle.std.proofs.Common.{take}
use Rattle.std.specs.Prelude.{All}
use Rattle.pw_graph.specs.PlanForms.{IsSoundForm}
use Rattle.graph_checks.proofs.plan_forms.are_sound_forms.Given as goal

abbrev pub invariant-loop-form : goal.invariant-loop-form
invariant-loop-form l = All (IsSoundForm l.plan l.epoch) (take l.form-index l.forms)
