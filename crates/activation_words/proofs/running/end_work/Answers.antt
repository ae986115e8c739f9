use Rattle.std.proofs.Common.{◌∙◌, ℕ, Bool, sym, ap, subst}
use Rattle.board_rule.specs.declared.view.View.{View}
use Rattle.board_rule.specs.Layout.{layout_of}
use Rattle.board_rule.specs.events.EventSteps.{Draws, draws, StoresEvent, event_stored}
use Rattle.activation_words.proofs.CallLemmas.{work_draws, work_stores, work_stored}
use Rattle.activation_words.proofs.running.end_work.Goals as goal

pub draw_ticket-requires-clause-phase : goal.draw_ticket-requires-clause-phase
draw_ticket-requires-clause-phase g c = let p = layout_of c.args.board.now.board_shape in let m : ℕ = p.index c.args.node in
    let v : View = g.S.BoardSeat.knows c.args.seat.now in let b : Bool = g.S.BoardSeat.is_driver in
    subst (λ (w : View). Draws b p w m) (sym c.store_finished.ensures.knows) (work_draws p v m b c.requires.ready.0)

pub store_event-requires-clause-phase : goal.store_event-requires-clause-phase
store_event-requires-clause-phase g c = let p = layout_of c.args.board.now.board_shape in let m : ℕ = p.index c.args.node in
    let v : View = g.S.BoardSeat.knows c.args.seat.now in let b : Bool = g.S.BoardSeat.is_driver in let t : ℕ = c.draw_ticket.result in
    subst (λ (w : View). StoresEvent b p w m) (sym (c.draw_ticket.ensures.knows
    ∙ ap (λ (w : View). draws b w m t) c.store_finished.ensures.knows))
    (work_stores p v m b t c.requires.ready.0 c.draw_ticket.ensures.word)

pub returns-clause-knows : goal.returns-clause-knows
returns-clause-knows g c = let p = layout_of c.args.board.now.board_shape in let m : ℕ = p.index c.args.node in
    let v : View = g.S.BoardSeat.knows c.args.seat.now in let b : Bool = g.S.BoardSeat.is_driver in let t : ℕ = c.draw_ticket.result in (
      t,
      c.draw_ticket.ensures.word,
      c.store_event.ensures.knows
          ∙ ap (λ (w : View). event_stored b w m) (c.draw_ticket.ensures.knows
          ∙ ap (λ (w : View). draws b w m t) c.store_finished.ensures.knows) ∙ work_stored p v m b t c.requires.ready.0,
    )
