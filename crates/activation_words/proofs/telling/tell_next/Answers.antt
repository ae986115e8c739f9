use Rattle.std.proofs.Common.{◌∙◌, ℕ, Bool, sym, ap, subst}
use Rattle.board_rule.specs.declared.view.View.{View}
use Rattle.board_rule.specs.Layout.{layout_of}
use Rattle.board_rule.specs.Steps.{Triggers, triggered}
use Rattle.activation_words.proofs.TellLemmas.{triggers_after, triggered_after}
use Rattle.activation_words.proofs.telling.tell_next.Goals as goal

pub store_triggered-requires-clause-phase : goal.store_triggered-requires-clause-phase
store_triggered-requires-clause-phase g c = let p = layout_of c.args.board.now.board_shape in let m : ℕ = p.index c.args.node in
    let v : View = g.S.BoardSeat.knows c.args.seat.now in let b : Bool = g.S.BoardSeat.is_driver in
    subst (λ (w : View). Triggers b p w m) (sym c.lower_pending-found.ensures.knows)
    (triggers_after p v m b c.lower_pending-found.result c.if-found-eq1.true c.requires.phase)

pub returns-then-found-eq1-clause-knows : goal.returns-then-found-eq1-clause-knows
returns-then-found-eq1-clause-knows g c = let p = layout_of c.args.board.now.board_shape in let m : ℕ = p.index c.args.node in
    let v : View = g.S.BoardSeat.knows c.args.seat.now in let b : Bool = g.S.BoardSeat.is_driver in
    let found : ℕ = c.lower_pending-found.result in (
      found,
      c.store_triggered.ensures.knows ∙ ap (λ (w : View). triggered b p w m) c.lower_pending-found.ensures.knows
          ∙ triggered_after p v m b found c.if-found-eq1.true c.requires.phase,
    )
