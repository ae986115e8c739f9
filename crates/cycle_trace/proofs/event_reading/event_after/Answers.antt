use Rattle.std.proofs.Common.{◌≡◌, [], decimal, Some, ap₂, ◌∙◌}
use Rattle.std.specs.Option.{option_map_or}
use Rattle.std.specs.List.{slice_split}
use Rattle.cycle_trace.specs.TraceReading.{is_space}
use Rattle.cycle_trace.specs.working.EventWords.{event_said}
use Rattle.cycle_trace.proofs.event_reading.event_after.Goals as goal

pub returns-in-Some-clause-only : goal.returns-in-Some-clause-only
returns-in-Some-clause-only c = λ event cycle others words small said.
    let number : c.next_piece.result.0.now ≡ decimal cycle = cc (c.next_piece.ensures.pieces, words) in
    let rest : option_map_or (λ text. slice_split is_space text.now) c.next_piece.result.1 [] ≡ others =
    cc (c.next_piece.ensures.pieces, words) in
    let found : c.number_said.result ≡ Some cycle = c.number_said.ensures cycle small number in
    let same : c.in-Some.cycle ≡ cycle = cc (c.in-Some.is, found) in
    c.event_said.ensures.value ∙ ap₂ (λ n ws. event_said c.args.names.now c.args.first.now n ws) same rest ∙ said

pub returns-in-None-clause-only : goal.returns-in-None-clause-only
returns-in-None-clause-only c = λ event cycle others words small said.
    let number : c.next_piece.result.0.now ≡ decimal cycle = cc (c.next_piece.ensures.pieces, words) in
    let found : c.number_said.result ≡ Some cycle = c.number_said.ensures cycle small number in
    cc (c.in-None.is, found)
