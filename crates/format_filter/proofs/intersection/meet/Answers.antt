-- An intersection is the only one.
use Rattle.format_filter.proofs.AnswerLemmas.{only_meeting}
use Rattle.format_filter.proofs.intersection.meet.Goals as goal

pub returns-clause-only : goal.returns-clause-only
returns-clause-only c = λ other h. only_meeting c.args.a.now c.args.b.now c.intersection_of.result c.intersection_of.ensures.meets other h
