use Rattle.std.specs.Prelude.{count_by, filter}
use Rattle.pw_graph.specs.History.{is_tick, IsLegalHistory}
use Rattle.pw_graph.specs.Layout.{event_count}
use Rattle.std.proofs.Common.{arith, ◌≡◌, ◌≤◌, ◌∙◌, ℕ, List, [], ◌∷◌, length, sym, ap, subst}
use Rattle.pw_graph.specs.declared.event.Event.{Event}
use Rattle.board_rule.specs.declared.view.View.{View}
use Rattle.board_rule.specs.Known.{Known}
use Rattle.board_rule.specs.Layout.{layout_of}
use Rattle.board_rule.specs.events.TicketOrder.{AreInTicketOrder}
use Rattle.board_rule.specs.events.Closing.{HasEndedAll, AreRecorded}
use Rattle.board_rule.proofs.events.ClosingLemmas.{closed_leaves}
use Rattle.board_rule.proofs.board.Board.close.Goals as goal

pub history-events-requires-clause-recorded : goal.history-events-requires-clause-recorded
history-events-requires-clause-recorded c = let b = c.args.self in let v = c.seat.inside.token.me.0 in
    let is = ap (λ (k : Known). k.knows) c.seat.view_is in
    let l = closed_leaves b.board_shape b.table.shared.key v c.keep-kept.new.token.me.0 c.close_with-words.result.words.items _
    c.keep-kept.new.token.id b.about c.close_with-words.ensures.values.2 c.keep-kept.ensures.left.1
    (subst (HasEndedAll (layout_of b.board_shape)) (sym is) c.requires.ended) in (
      l.history,
      subst (λ (k : ℕ × ℕ). AreRecorded b.board_shape.shape.first k.0 k.1 l.history c.close_with-words.result.words.items)
          (λ i. (sym c.first_late-lates.ensures i, sym c.first_event-events.ensures i)) l.stands,
    )

pub history-events-requires-clause-spare : goal.history-events-requires-clause-spare
history-events-requires-clause-spare c = let b = c.args.self in let v = c.seat.inside.token.me.0 in
    let is = ap (λ (k : Known). k.knows) c.seat.view_is in
    let l = closed_leaves b.board_shape b.table.shared.key v c.keep-kept.new.token.me.0 c.close_with-words.result.words.items _
    c.keep-kept.new.token.id b.about c.close_with-words.ensures.values.2 c.keep-kept.ensures.left.1
    (subst (HasEndedAll (layout_of b.board_shape)) (sym is) c.requires.ended) in
    let fits = l.fits in let count = l.stands.count in let enough = b.enough in omega arith

pub returns : goal.returns
returns c = let b = c.args.self in let v = c.seat.inside.token.me.0 in let is = ap (λ (k : Known). k.knows) c.seat.view_is in
    let l = closed_leaves b.board_shape b.table.shared.key v c.keep-kept.new.token.me.0 c.close_with-words.result.words.items _
    c.keep-kept.new.token.id b.about c.close_with-words.ensures.values.2 c.keep-kept.ensures.left.1
    (subst (HasEndedAll (layout_of b.board_shape)) (sym is) c.requires.ended) in
    let events : c.history-events.result ≡ l.history =
    c.history-events.ensures l.history (subst (λ (k : ℕ
    × ℕ). AreRecorded b.board_shape.shape.first k.0 k.1 l.history c.close_with-words.result.words.items)
    (λ i. (sym c.first_late-lates.ensures i, sym c.first_event-events.ensures i)) l.stands) in record {
      board_shape = λ _. b.board_shape;
      expect = ap (λ (u : View). u.expect) c.keep-kept.ensures.right ∙ ap (λ (u : View). u.expect) is;
      order = subst (λ (k : View × List Event). AreInTicketOrder (layout_of b.board_shape) k.0 k.1) (λ i. (is i, sym events i)) l.ordered;
      legal = subst (λ (es : List Event). IsLegalHistory (b.board_shape.shape ∷ []) es) (sym events) l.is_legal;
      ticks = ap (count_by is_tick) events ∙ l.has_ticks ∙ ap (λ (u : View). u.lead.checks) is;
      lates = ap (filter is_tick) events ∙ l.has_lates ∙ ap (λ (u : View). u.lead.lates) is;
      count = subst (λ (es : List Event). length es ≤ event_count b.board_shape.shape) (sym events) l.fits;
    }
