use Rattle.std.proofs.Common.{◌∙◌, ℕ, Bool, sym, ap, subst}
use Rattle.board_rule.specs.declared.view.View.{View}
use Rattle.board_rule.specs.Layout.{layout_of}
use Rattle.board_rule.specs.events.EventSteps.{StoresEvent, event_stored}
use Rattle.activation_words.proofs.CallLemmas.{start_stores, start_stored}
use Rattle.activation_words.proofs.running.start.Goals as goal

pub store_event-requires-clause-phase : goal.store_event-requires-clause-phase
store_event-requires-clause-phase g c = let p = layout_of c.args.board.now.board_shape in let m : ℕ = p.index c.args.node in
    let v : View = g.S.BoardSeat.knows c.args.seat.now in let b : Bool = g.S.BoardSeat.is_driver in
    subst (λ (w : View). StoresEvent b p w m) (sym c.draw_ticket.ensures.knows)
    (start_stores p v m b c.draw_ticket.result c.requires.node c.requires.awake c.draw_ticket.ensures.word)

pub returns-clause-knows : goal.returns-clause-knows
returns-clause-knows g c = let p = layout_of c.args.board.now.board_shape in let m : ℕ = p.index c.args.node in
    let v : View = g.S.BoardSeat.knows c.args.seat.now in let b : Bool = g.S.BoardSeat.is_driver in (
      c.draw_ticket.result,
      c.draw_ticket.ensures.word,
      c.store_event.ensures.knows
          ∙ ap (λ (w : View). event_stored b w m) c.draw_ticket.ensures.knows
          ∙ start_stored p v m b c.draw_ticket.result c.requires.node c.requires.awake,
    )
