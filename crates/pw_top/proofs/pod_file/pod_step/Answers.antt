use Rattle.std.proofs.Common.{arith}
use Rattle.pod_codec.proofs.PodReadings.{front_fits}
use Rattle.pw_top.proofs.PodFileLemmas.{refused, read_whole, read_rest}
use Rattle.pw_top.proofs.pod_file.pod_step.Goals as goal

pub overflow_cast-result : goal.overflow_cast-result
overflow_cast-result c = grind (arith, (front_fits c.args.bytes.now c.in-Ok.pod c.in-Ok.length c.in-Ok.ensures.found).1)

pub returns-in-Err-clause-told : goal.returns-in-Err-clause-told
returns-in-Err-clause-told c =
    refused c.args.place c.args.bytes.now c.in-Err.fault c.refusal_of.result c.refusal_of.ensures c.in-Err.ensures.fault

pub returns-then-length-bytes-clause-told : goal.returns-then-length-bytes-clause-told
returns-then-length-bytes-clause-told c =
    read_whole c.args.place c.args.bytes.now c.in-Ok.pod c.in-Ok.length c.in-Ok.ensures.found c.if-length-bytes.true

pub returns-else-length-bytes-clause-told : goal.returns-else-length-bytes-clause-told
returns-else-length-bytes-clause-told c =
    read_rest c.args.place c.args.bytes.now c.in-Ok.pod c.in-Ok.length c.in-Ok.ensures.found c.if-length-bytes.false
