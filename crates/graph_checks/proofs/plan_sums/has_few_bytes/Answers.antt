use Rattle.std.proofs.Common.{ap, ◌∙◌, subst, sym, ◌≤◌, arith}
use Rattle.std.specs.Prelude.{IsTrue, nat_le, sum_by, ◌↔◌}
use Rattle.pw_graph.specs.PlanSums.{epoch_bytes, block_bytes_of, capped}
use Rattle.pw_graph.proofs.PlanSumsLemmas.{capped_within}
use Rattle.graph_checks.proofs.plan_sums.has_few_bytes.Goals as goal

pub returns : goal.returns
returns c =
    let whole = c.total_bytes.ensures ∙ ap (λ xs. capped (sum_by (epoch_bytes c.args.plan.now) xs)) c.as_slice.ensures in
    subst (λ n. IsTrue (nat_le n 268435456) ↔ (block_bytes_of c.args.plan.now ≤ 268435456)) (sym whole)
    (capped_within (block_bytes_of c.args.plan.now) 268435456 (omega arith))
