use Rattle.std.proofs.Common.{◌∷◌, [], length, ap, subst, arith, length-append}
use Rattle.cycle_trace.specs.TraceReading.{trace_lines, IsLineOf, IsNoLine}
use Rattle.cycle_trace.proofs.TraceReadingLemmas.{read_more, first_fault}
use Rattle.cycle_trace.proofs.event_reading.read_events.Goals as goal

pub returns-in-None-clause-fault : goal.returns-in-None-clause-fault
returns-in-None-clause-fault c =
    let none = rw c.in-None.is at c.in_ok-event.ensures in
    first_fault c.args.names.now c.args.bytes.now c.loop-line.rest.now c.in-Some.line.now
    (trace_lines c.in-Some.more.now) c.loop-line.events c.loop-line.number
    c.loop-line.invariant.read c.in-Some.ensures.lines
    (subst (λ names. IsNoLine names c.in-Some.line.now) c.as_slice-names.ensures none) c.loop-line.invariant.numbered

pub loop-line-preserved : goal.loop-line-preserved
loop-line-preserved c =
    let some = rw c.in-Some-2.is at c.in_ok-event.ensures in
    let pushed = c.in_ok-push-in-Some-2.ensures.ok in
    record {
      read = read_more c.args.names.now c.args.bytes.now c.loop-line.rest.now c.in-Some.line.now c.in-Some.more.now c.loop-line.events
          c.push.new.self c.in-Some-2.event
          c.loop-line.invariant.read c.in-Some.ensures.lines
          (subst (λ names. IsLineOf names c.in-Some.line.now c.in-Some-2.event) c.as_slice-names.ensures some) pushed;
      numbered = omega (arith, ap length pushed, length-append c.loop-line.events (c.in-Some-2.event ∷ []));
      count = omega (arith, c.in-Some.ensures.shorter);
    }
