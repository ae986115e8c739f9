use Rattle.std.proofs.Common.{refl}
use Rattle.cycle_trace.specs.TraceReading.{is_space}
use Rattle.pw_lists.proofs.PieceLemmas.{first_piece}
use Rattle.cycle_trace.proofs.event_words.alone.Goals as goal

pub returns-in-Some : goal.returns-in-Some
returns-in-Some c = rw c.in-Some.is (rw (first_piece is_space c.in-Some._text.now) refl)
