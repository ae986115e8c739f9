use Rattle.std.proofs.Common.{◌≡◌}
use Rattle.board_rule.specs.Layout.{layout_of}
use Rattle.activation_words.specs.Told.{IsTelling}
use Rattle.activation_words.proofs.telling.tell_all.Given as goal

abbrev pub invariant-loop-told : goal.invariant-loop-told
invariant-loop-told g l = (g.S.BoardSeat.table l.seat ≡ g.S.BoardSeat.table l.fn.seat)
    × (let p = layout_of l.board.board_shape in IsTelling g.S.BoardSeat.is_driver p (g.S.BoardSeat.knows l.fn.seat) (p.index l.node) l.told
    (g.S.BoardSeat.knows l.seat))
