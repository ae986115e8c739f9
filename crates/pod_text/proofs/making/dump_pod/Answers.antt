-- The value of a text is spelled.
use Rattle.pod_text.proofs.DumpLemmas.{dump_spelled}
use Rattle.pod_text.proofs.making.dump_pod.Goals as goal

pub returns-in-Ok : goal.returns-in-Ok
returns-in-Ok c = dump_spelled c.args.text.now c.in-Ok.pod c.spelled.result c.in-Ok.ensures.found c.in-Ok.ensures.back c.spelled.ensures
