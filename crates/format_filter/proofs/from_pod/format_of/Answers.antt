-- A format and a first fault are the only ones.
use Rattle.format_filter.proofs.AnswerLemmas.{only_format, only_refused}
use Rattle.format_filter.proofs.from_pod.format_of.Goals as goal

pub returns-clause-only : goal.returns-clause-only
returns-clause-only c = λ format h. only_format c.args.pod.now c.object_format.result c.object_format.ensures.found
    c.object_format.ensures.fault format h

pub returns-clause-only_fault : goal.returns-clause-only_fault
returns-clause-only_fault c = λ first h. only_refused c.args.pod.now c.object_format.result c.object_format.ensures.found
    c.object_format.ensures.fault first h
