-- A trace has no more events than bytes.
use Rattle.std.proofs.Common.{arith}
use Rattle.trace_check.proofs.FindingLemmas.{few_events}
use Rattle.pw_top.proofs.commands.check_traces.see.Goals as goal

pub reason_of-requires-clause-few : goal.reason_of-requires-clause-few
reason_of-requires-clause-few c =
    let few = few_events c.args.names.now c.args.bytes.now c.in-Ok.events c.in-Ok.ensures.events in
    let bytes = c.requires.few in
    omega arith
