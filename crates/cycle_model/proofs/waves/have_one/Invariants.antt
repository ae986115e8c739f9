use Rattle.std.proofs.Common.{◌≡◌, ℕ, ◌<◌, ◌==◌, count_by}
use Rattle.pw_graph.specs.declared.kind.Kind.TheVariants.{Source}
use Rattle.pw_graph.specs.PlanForms.{kind_at}
use Rattle.cycle_model.proofs.waves.have_one.Given as goal

abbrev pub invariant-loop-n : goal.invariant-loop-n
invariant-loop-n l = (k : ℕ) → k < l.n → kind_at l.plan k ≡ Source → count_by (λ w. w.node == k) l.waves ≡ 1
