use Rattle.std.proofs.Common.{ap, ◌∙◌, subst, sym, ◌≤◌, arith}
use Rattle.std.specs.Prelude.{IsTrue, nat_le, sum_by, ◌↔◌}
use Rattle.pw_graph.specs.PlanSums.{epoch_samples, sink_samples_of, capped}
use Rattle.pw_graph.proofs.PlanSumsLemmas.{capped_within}
use Rattle.graph_checks.proofs.plan_sums.has_few_samples.Goals as goal

pub returns : goal.returns
returns c =
    let whole = c.total_samples.ensures ∙ ap (λ xs. capped (sum_by (epoch_samples c.args.plan.now) xs)) c.as_slice.ensures in
    subst (λ n. IsTrue (nat_le n 134217728) ↔ (sink_samples_of c.args.plan.now ≤ 134217728)) (sym whole)
    (capped_within (sink_samples_of c.args.plan.now) 134217728 (omega arith))
