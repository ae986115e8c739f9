use Rattle.std.proofs.Common.{ap, ◌∙◌, subst, sym, ◌≤◌, arith}
use Rattle.std.specs.Prelude.{IsTrue, nat_le, sum_by, ◌↔◌}
use Rattle.pw_graph.specs.PlanSums.{epoch_events, events_of, capped}
use Rattle.pw_graph.proofs.PlanSumsLemmas.{capped_within}
use Rattle.graph_checks.proofs.plan_sums.has_few_events.Goals as goal

pub returns : goal.returns
returns c =
    let whole = c.total_events.ensures ∙ ap (λ xs. capped (sum_by epoch_events xs)) c.as_slice.ensures in
    subst (λ n. IsTrue (nat_le n 4194304) ↔ (events_of c.args.plan.now ≤ 4194304)) (sym whole)
    (capped_within (events_of c.args.plan.now) 4194304 (omega arith))
