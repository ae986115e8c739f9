-- No POD reaches past 1,048,584 bytes, so the end may be there.
use Rattle.std.proofs.Common.{◌≡◌, ◌≤◌, length, min, arith}
use Rattle.pod_codec.specs.Places.{u32_at}
use Rattle.pod_codec.proofs.ReadingLemmas.{further, outer_fault}
use Rattle.pod_codec.proofs.reading.front_of.Goals as goal

pub returns-in-Ok-clause-found : goal.returns-in-Ok-clause-found
returns-in-Ok-clause-found c =
    let small : u32_at c.args.bytes.now 0 ≤ 1048576 = omega (arith, c.number_at-size.ensures) in
    let near : c.min-end.result ≤ length c.args.bytes.now = omega (arith, c.min-end.ensures) in
    record {
      front = further 15 0 c.min-end.result (length c.args.bytes.now)
          c.in-Ok.length c.args.bytes.now c.in-Ok.pod near c.in-Ok.ensures.found;
      limit = small;
    }

pub returns-in-Err-clause-fault : goal.returns-in-Err-clause-fault
returns-in-Err-clause-fault c =
    let small : u32_at c.args.bytes.now 0 ≤ 1048576 = omega (arith, c.number_at-size.ensures) in
    let end : c.min-end.result ≡ min (length c.args.bytes.now) 1048584 = omega (arith, c.min-end.ensures) in
    outer_fault c.min-end.result c.args.bytes.now c.in-Err.fault end (omega arith) small c.in-Err.ensures.fault
