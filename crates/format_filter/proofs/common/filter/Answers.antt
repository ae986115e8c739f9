-- What two formats have in common is the only answer.
use Rattle.format_filter.proofs.AnswerLemmas.{only_common}
use Rattle.format_filter.proofs.common.filter.Goals as goal

pub returns-clause-only : goal.returns-clause-only
returns-clause-only c = λ other h. only_common c.args.a.now c.args.b.now c.common_of.result c.common_of.ensures other h
