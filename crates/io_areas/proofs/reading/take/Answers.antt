use Rattle.std.proofs.Common.{ℕ, sym, ap, ◌∙◌, subst}
use Rattle.board_rule.specs.Layout.{layout_of}
use Rattle.board_rule.specs.buffers.ReaderSteps.{IsOfThisCycle}
use Rattle.io_areas.specs.Reading.{taken}
use Rattle.io_areas.proofs.reading.take.Goals as goal

pub returns-clause-knows : goal.returns-clause-knows
returns-clause-knows g c = c.load_io_as_reader.ensures.knows
    ∙ ap (λ (n : ℕ). taken g.S.BoardSeat.is_driver (layout_of c.args.board.now.board_shape) (g.S.BoardSeat.knows c.args.seat.now) c.args.link n)
    (sym c.io_id_of.ensures)

pub returns-clause-cycle : goal.returns-clause-cycle
returns-clause-cycle g c = let p = layout_of c.args.board.now.board_shape in
    subst (IsOfThisCycle g.S.BoardSeat.is_driver p (g.S.BoardSeat.knows c.args.seat.now) c.args.link) (sym c.io_id_of.ensures)
    c.load_io_as_reader.ensures.word.3
