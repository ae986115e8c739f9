-- There is an answer, and one that is right is the only one; the canonical spelling spells, and what is spelled has sound choices.
use Rattle.std.proofs.Common.{length}
use Rattle.pod_codec.specs.PodValue.{canonical}
use Rattle.pod_codec.proofs.SpellingLemmas.{only_read, only_refused, only_sound}
use Rattle.pod_codec.proofs.CanonicalLemmas.{canonical_front}
use Rattle.pod_codec.proofs.HasAnswerLemmas.{has_answer}
use Rattle.pod_codec.proofs.reading.read_pod.Goals as goal

pub returns-clause-one : goal.returns-clause-one
returns-clause-one c = has_answer c.args.bytes.now

pub returns-clause-only_found : goal.returns-clause-only_found
returns-clause-only_found c = λ pod size h. only_read c.front_of.result c.args.bytes.now c.front_of.ensures.found c.front_of.ensures.fault
    pod size h

pub returns-clause-only_fault : goal.returns-clause-only_fault
returns-clause-only_fault c = λ first h. only_refused c.front_of.result c.args.bytes.now c.front_of.ensures.found c.front_of.ensures.fault
    first h

pub returns-clause-back : goal.returns-clause-back
returns-clause-back c = λ pod rest fits numbers is.
    only_read c.front_of.result c.args.bytes.now c.front_of.ensures.found c.front_of.ensures.fault pod (length (canonical pod))
    (canonical_front c.args.bytes.now rest pod fits numbers is)

pub returns-clause-sound : goal.returns-clause-sound
returns-clause-sound c = only_sound c.front_of.result c.args.bytes.now c.front_of.ensures.found
