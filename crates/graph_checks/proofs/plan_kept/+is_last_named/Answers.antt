use Rattle.std.proofs.Common.{◌-◌, arith}
use Rattle.graph_checks.proofs.FreshChecksLemmas.{last_before}
use Rattle.graph_checks.proofs.plan_kept.+is_last_named.Goals as goal

pub returns-then-j-gt0 : goal.returns-then-j-gt0
returns-then-j-gt0 t c =
    let both = last_before c.args.plan.now c.args.j c.args.node c.args.channels (c.args.j - 1) (omega arith)
    (λ n. let f = c.if-is_named.ensures.1 n in cc) in
    (λ r. both.1 (c.is_last_named.ensures.0 r), λ h. c.is_last_named.ensures.1 (both.0 h))
