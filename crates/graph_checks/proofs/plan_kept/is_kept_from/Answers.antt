use Rattle.std.proofs.Common.{refl, arith}
use Rattle.graph_checks.specs.working.FreshChecks.{IsNamed}
use Rattle.graph_checks.proofs.FreshChecksLemmas.{between_more, kept_to_end}
use Rattle.graph_checks.proofs.plan_kept.is_kept_from.Goals as goal

pub returns-then-is_named : goal.returns-then-is_named
returns-then-is_named c = (λ f. cc, λ h. absurd (h.never c.loop-j.j (omega arith) (c.if-is_named.ensures.0 refl)))

pub loop-j-preserved : goal.loop-j-preserved
loop-j-preserved c =
    between_more (λ k. ¬ IsNamed c.args.plan.now k c.args.node) c.args.i c.loop-j.j c.loop-j.invariant
    (λ n. let t = c.if-is_named.ensures.1 n in cc)

pub returns : goal.returns
returns c = (λ t. kept_to_end c.args.plan.now c.args.i c.loop-j.j c.args.node c.loop-j.invariant (omega arith), λ h. refl)
