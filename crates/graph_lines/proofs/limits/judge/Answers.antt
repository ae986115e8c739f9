-- Sums that stay at the greatest number pass the limits that the sums themselves pass.
use Rattle.std.proofs.Common.{sym, ap, ◌∙◌}
use Rattle.graph_lines.specs.Sums.{sums_with, passed}
use Rattle.graph_lines.proofs.SumLemmas.{passed-capped, capped_same}
use Rattle.graph_lines.proofs.limits.judge.Goals as goal

pub returns-in-Some : goal.returns-in-Some
returns-in-Some c = let sums = sums_with c.args.kinds.now c.args.sums c.args.epoch.now in
    sym (passed-capped sums) ∙ (ap passed (sym c.with-more.ensures) ∙ (sym c.passed.ensures ∙ c.in-Some.is))

pub returns-in-None : goal.returns-in-None
returns-in-None c = let sums = sums_with c.args.kinds.now c.args.sums c.args.epoch.now in
    let none = sym (passed-capped sums) ∙ (ap passed (sym c.with-more.ensures) ∙ (sym c.passed.ensures ∙ c.in-None.is)) in
    (c.with-more.ensures ∙ capped_same sums none, none)
