use Rattle.std.proofs.Common.{◌∙◌, sym, ap, subst}
use Rattle.board_rule.specs.declared.view.View.{View}
use Rattle.board_rule.specs.Layout.{layout_of}
use Rattle.io_areas.specs.Reading.{all_loaded, brought, GivesBack, given_back}
use Rattle.io_areas.proofs.InputTurnLemmas.{may_give, has_read, brought_now}
use Rattle.io_areas.proofs.input_turn.read_input.Goals as goal

pub give_back-requires-clause-phase : goal.give_back-requires-clause-phase
give_back-requires-clause-phase g c = let b = g.S.BoardSeat.is_driver in let p = layout_of c.args.board.now.board_shape in let l = c.args.link in
    subst (λ (v : View). GivesBack b p v l) (sym (c.read.ensures.knows ∙ ap (λ (v : View). all_loaded b p v l) c.take.ensures.knows))
    (may_give b p (g.S.BoardSeat.knows c.args.seat.now) l c.requires.phase c.take.result c.take.ensures.inside)

pub returns-clause-knows : goal.returns-clause-knows
returns-clause-knows g c = let b = g.S.BoardSeat.is_driver in let p = layout_of c.args.board.now.board_shape in let l = c.args.link in
    has_read b p (g.S.BoardSeat.knows c.args.seat.now) l c.requires.phase c.take.result c.take.ensures.inside _
    (c.give_back.ensures.knows ∙ ap (λ (v : View). given_back b p v l) (c.read.ensures.knows
    ∙ ap (λ (v : View). all_loaded b p v l) c.take.ensures.knows))

pub returns-clause-samples : goal.returns-clause-samples
returns-clause-samples g c = let b = g.S.BoardSeat.is_driver in let p = layout_of c.args.board.now.board_shape in let l = c.args.link in
    c.read.ensures.samples ∙ ap (λ (v : View). brought b p v l) c.take.ensures.knows
    ∙ brought_now b p _ l c.requires.phase c.take.result c.take.ensures.inside

pub returns-clause-clamped : goal.returns-clause-clamped
returns-clause-clamped g c = c.read.ensures.clamped
