-- The part that has both nodes, or no part.
use Rattle.std.proofs.Common.{sym, ◌∙◌}
use Rattle.graph_plan.proofs.linked_parts.SaidLastLemmas.{said_here, not_here, said_whole}
use Rattle.graph_plan.proofs.together.said_last.Goals as goal

pub returns-then-has_both : goal.returns-then-has_both
returns-then-has_both c = c.last_line.ensures ∙ sym (said_here c.args.a c.args.b c.args.members.now c.loop-member.member-index c.loop-member.invariant
    c.member-item.result c.loop-member-test.true c.member-item.is c.args.whole.now (sym c.has_both.ensures ∙ c.if-has_both.true))

pub loop-member-preserved : goal.loop-member-preserved
loop-member-preserved c = not_here c.args.a c.args.b c.args.members.now c.loop-member.member-index c.loop-member.invariant
    c.member-item.result c.loop-member-test.true c.member-item.is (sym c.has_both.ensures ∙ c.if-has_both.false)

pub returns : goal.returns
returns c = c.last_line-2.ensures ∙ sym (said_whole c.args.a c.args.b c.args.members.now c.loop-member.member-index c.loop-member.invariant
    c.args.whole.now c.loop-member-test.false)
