use Rattle.std.proofs.Common.{sym}
use Rattle.graph_script.specs.Arguments.{is_dot}
use Rattle.graph_script.proofs.LexicalLemmas.{more_than_two}
use Rattle.graph_script.proofs.nodes.endpoint_parts.Goals as goal

pub returns-in-Some-more : goal.returns-in-Some-more
returns-in-Some-more c =
    let first = rw c.in-Some.is at c.next_piece.ensures.pieces in
    let second = rw c.in-Some-more.is at c.next_piece-in-Some.ensures.pieces in
    sym (more_than_two is_dot _ _ _ _ c.in-Some-more._more.now first second)
