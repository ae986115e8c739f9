use Rattle.std.proofs.Common.{arith}
use Rattle.trace_check.proofs.FindingLemmas.{few_events}
use Rattle.trace_check.proofs.trace.find.Goals as goal

pub check-requires-clause-few : goal.check-requires-clause-few
check-requires-clause-few c =
    let few = few_events c.args.names.now c.args.bytes.now c.in-Ok.events c.in-Ok.ensures.events in
    let bytes = c.requires.few in
    omega arith
