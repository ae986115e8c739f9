-- What was dumped is read, and dumped as it was.
use Rattle.std.proofs.Common.{◌≡◌, sym, ap, ◌∙◌}
use Rattle.std.proofs.lemmas.Bool.{both_ways}
use Rattle.std.proofs.lemmas.Bool.Decides.{Decides-eqb}
use Rattle.std.proofs.lemmas.Slice.Eq.{slice_eq-Decides}
use Rattle.pod_codec.specs.DumpText.{dump_text_of}
use Rattle.dump_reading.specs.Values.{pod_said}
use Rattle.dump_reading.proofs.AnswerLemmas.{told_back, one_pod}
use Rattle.dump_reading.proofs.ValueLemmas.{pod_back}
use Rattle.dump_reading.proofs.reading.read_dump.Goals as goal

pub returns-in-Err-clause-back : goal.returns-in-Err-clause-back
returns-in-Err-clause-back c = λ pod ok is.
    told_back c.in-Err.stop c.fault_of.result (pod_said c.args.text.now) pod c.in-Err.ensures c.fault_of.ensures
    (pod_back pod c.args.text.now ok is)

pub returns-then-eq-clause-back : goal.returns-then-eq-clause-back
returns-then-eq-clause-back c = λ pod ok is.
    one_pod (pod_said c.args.text.now) c.in-Ok.pod pod c.in-Ok.ensures (pod_back pod c.args.text.now ok is)

pub returns-else-eq-clause-back : goal.returns-else-eq-clause-back
returns-else-eq-clause-back c = λ pod ok is.
    let one : c.in-Ok.pod ≡ pod = one_pod (pod_said c.args.text.now) c.in-Ok.pod pod c.in-Ok.ensures (pod_back pod c.args.text.now ok is) in
    let same : c.in-Ok-dump_text.dumped ≡ c.args.text.now = c.in-Ok-dump_text.ensures ∙ ap dump_text_of one ∙ sym is in
    absurd (both_ways c.eq.result c.if-eq.false
    ((slice_eq-Decides Decides-eqb _ _ _ c.eq.ensures).1 (c.as_slice.ensures ∙ same)))
