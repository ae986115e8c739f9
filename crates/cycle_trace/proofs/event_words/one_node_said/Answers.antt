use Rattle.std.proofs.Common.{refl}
use Rattle.cycle_trace.specs.TraceReading.{is_space}
use Rattle.pw_lists.proofs.PieceLemmas.{first_piece}
use Rattle.cycle_trace.proofs.event_words.one_node_said.Goals as goal

pub returns-in_default-Some : goal.returns-in_default-Some
returns-in_default-Some c =
    let pieces = rw c.in_default-Some.is-1 at c.next_piece.ensures.pieces in
    rw c.in-Some.is (rw pieces (rw (first_piece is_space c.in_default-Some._more.now) refl))
