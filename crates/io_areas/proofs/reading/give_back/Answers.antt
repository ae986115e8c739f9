use Rattle.std.proofs.Common.{◌∙◌, ap}
use Rattle.board_rule.specs.declared.view.View.{View}
use Rattle.board_rule.specs.Layout.{layout_of}
use Rattle.board_rule.specs.buffers.ReaderSteps.{need_stored}
use Rattle.io_areas.proofs.GivesBackLemmas.{gives_back}
use Rattle.io_areas.proofs.reading.give_back.Goals as goal

pub returns-clause-knows : goal.returns-clause-knows
returns-clause-knows g c = let b = g.S.BoardSeat.is_driver in let p = layout_of c.args.board.now.board_shape in
    c.store_need_data.ensures.knows ∙ ap (λ (v : View). need_stored b p v c.args.link) c.lower_readers.ensures.knows
    ∙ gives_back b p (g.S.BoardSeat.knows c.args.seat.now) c.args.link c.requires.phase
