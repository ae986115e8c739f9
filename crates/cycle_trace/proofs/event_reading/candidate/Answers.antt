use Rattle.std.proofs.Common.{◌≡◌, ◌∷◌, decimal, ap, ◌∙◌}
use Rattle.std.specs.List.{slice_split}
use Rattle.cycle_trace.specs.TraceReading.{is_space}
use Rattle.cycle_trace.specs.working.EventWords.{event_said}
use Rattle.cycle_trace.proofs.ReadingLemmas.{is_said}
use Rattle.cycle_trace.proofs.event_reading.candidate.Goals as goal

pub returns-in-Some-clause-only : goal.returns-in-Some-clause-only
returns-in-Some-clause-only c = λ event line.
    let said = is_said c.args.names.now c.args.line.now event c.requires line in
    let pieces = rw c.in-Some.is at c.next_piece.ensures.pieces in
    let first : c.next_piece.result.0.now ≡ said.first = cc (pieces, said.words) in
    let rest : slice_split is_space c.in-Some.after.now ≡ decimal said.cycle ∷ said.others = cc (pieces, said.words) in
    c.event_after.ensures.only event said.cycle said.others rest said.fits
    (ap (λ w. event_said c.args.names.now w said.cycle said.others) first ∙ said.said)

pub returns-in-None-clause-only : goal.returns-in-None-clause-only
returns-in-None-clause-only c = λ event line.
    let said = is_said c.args.names.now c.args.line.now event c.requires line in
    let pieces = rw c.in-None.is at c.next_piece.ensures.pieces in
    cc (pieces, said.words)
