use Rattle.cycle_trace.proofs.TraceReadingLemmas.{line_then}
use Rattle.cycle_trace.proofs.event_reading.next_line.Goals as goal

pub returns-in-Some-clause-lines : goal.returns-in-Some-clause-lines
returns-in-Some-clause-lines c =
    let pieces = rw c.in-Some.is at c.next_piece.ensures.pieces in
    line_then c.args.text.now c.next_piece.result.0.now c.in-Some.more.now pieces
