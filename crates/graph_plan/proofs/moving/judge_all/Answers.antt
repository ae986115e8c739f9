-- What was looked at passes the limit that the line passes, or no limit.
use Rattle.std.proofs.Common.{◌∙◌, sym}
use Rattle.graph_plan.proofs.linked_parts.AheadLemmas.{judged_limit, judged_within}
use Rattle.graph_plan.proofs.moving.judge_all.Goals as goal

pub returns-in-Some : goal.returns-in-Some
returns-in-Some c = judged_limit c.args.waves.now c.args.line.now c.args.members.now c.in_ok-ahead.ahead c.in-Some.which c.in_ok-ahead.ensures
    (sym c.passed.ensures ∙ c.in-Some.is)

pub returns-in-None : goal.returns-in-None
returns-in-None c = judged_within c.args.waves.now c.args.line.now c.args.members.now c.in_ok-ahead.ahead c.in_ok-ahead.ensures
    (sym c.passed.ensures ∙ c.in-None.is)
