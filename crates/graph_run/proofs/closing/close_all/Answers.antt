use Rattle.std.proofs.Common.{◌≡◌, ◌∙◌, List, ◌∷◌, ◌++◌, length, map, sym, ap, subst, arith}
use Rattle.std.specs.Prelude.{sum_by, count_by}
use Rattle.std.specs.List.{flat_map}
use Rattle.std.proofs.lemmas.List.Sums.{sum_by-cons}
use Rattle.pw_graph.specs.declared.event.Event.{Event}
use Rattle.pw_graph.specs.Layout.{event_count}
use Rattle.pw_graph.specs.History.{is_tick, IsLegalHistory}
use Rattle.board_rule.specs.declared.board.Board.{Board}
use Rattle.board_rule.specs.declared.closed.Closed.{Closed}
use Rattle.board_rule.specs.Known.{Known}
use Rattle.board_rule.specs.events.Closing.{expected}
use Rattle.graph_run.proofs.ClosingLemmas.{Between, goes_on, all_closed}
use Rattle.graph_run.proofs.closing.close_all.Goals as goal

pub loop-driver-preserved-in-Some-next : goal.loop-driver-preserved-in-Some-next
loop-driver-preserved-in-Some-next c = let i = c.loop-driver.invariant in
    let b = c.in-Some-next.board in let s = c.in-Some.driver in let x : Closed = c.close-one.result in
    let rest = c.next-in-loop-driver.new.self.rest.items in let left = c.next.new.self.rest.items in
    let boards_step : c.loop-driver.rest.rest.items ≡ b ∷ rest = c.in-Some-next.ensures.items in
    let seats_step : c.loop-driver.driver-iterator.rest.items ≡ s ∷ left = c.in-Some.ensures.steps.0 in
    let before : Between c.args.boards c.args.drivers (b ∷ rest) (s ∷ left) c.loop-driver.closed.list c.loop-driver.history.list =
    subst (λ (y : List Board × List Known). Between c.args.boards c.args.drivers y.0 y.1 c.loop-driver.closed.list c.loop-driver.history.list)
    (λ j. (boards_step j, seats_step j)) i.between in
    let told : c.as_slice.result.now ≡ x.events = c.as_slice.ensures ∙ c.events.ensures in
    let after = goes_on c.args.boards c.args.drivers b rest s left c.loop-driver.closed.list c.loop-driver.history.list x before
    c.close-one.ensures.board_shape c.close-one.ensures.expect c.close-one.ensures.legal c.close-one.ensures.ticks in
    let long = ap (λ (l : List Board). length l) boards_step in
    let sums = ap (λ (l : List Board). sum_by (λ y. event_count y.board_shape.shape) l) boards_step in
    let cons = sum_by-cons (λ (y : Board). event_count y.board_shape.shape) b rest in
    let few = c.close-one.ensures.count in let same = ap (λ (l : List Event). length l) told in record {
      between = subst (λ (y : List Closed × List Event). Between c.args.boards c.args.drivers rest left y.0 y.1)
          (λ j. (sym c.push_spare.ensures.list j, sym (c.append.ensures.list ∙ ap (λ (l : List Event). c.loop-driver.history.list ++ l) told) j)) after;
      room = omega (arith, long, i.room, c.push_spare.ensures.spare);
      events = omega (arith, sums, cons, i.events, few, same, c.append.ensures.spare);
    }

pub returns-clause-shapes : goal.returns-clause-shapes
returns-clause-shapes c =
    let all = all_closed c.args.boards c.args.drivers c.loop-driver.rest.rest.items c.loop-driver.driver-iterator.rest.items
    c.loop-driver.closed.list c.loop-driver.history.list (omega (arith, c.in-None.ensures.steps.0, c.loop-driver.driver-iterator.rest.ok.0))
    c.loop-driver.invariant.between in
    ap (λ (l : List Closed). map (λ x. x.board_shape) l) c.into_items.ensures ∙ all.0

pub returns-clause-legal : goal.returns-clause-legal
returns-clause-legal c =
    let all = all_closed c.args.boards c.args.drivers c.loop-driver.rest.rest.items c.loop-driver.driver-iterator.rest.items
    c.loop-driver.closed.list c.loop-driver.history.list (omega (arith, c.in-None.ensures.steps.0, c.loop-driver.driver-iterator.rest.ok.0))
    c.loop-driver.invariant.between in
    subst (λ (l : List Event). IsLegalHistory (map (λ b. b.board_shape.shape) c.args.boards) l) (sym c.into_items-2.ensures) all.1

pub returns-clause-expect : goal.returns-clause-expect
returns-clause-expect c =
    let all = all_closed c.args.boards c.args.drivers c.loop-driver.rest.rest.items c.loop-driver.driver-iterator.rest.items
    c.loop-driver.closed.list c.loop-driver.history.list (omega (arith, c.in-None.ensures.steps.0, c.loop-driver.driver-iterator.rest.ok.0))
    c.loop-driver.invariant.between in
    ap (λ (l : List Closed). map expected l) c.into_items.ensures ∙ all.2

pub returns-clause-ticks : goal.returns-clause-ticks
returns-clause-ticks c =
    let all = all_closed c.args.boards c.args.drivers c.loop-driver.rest.rest.items c.loop-driver.driver-iterator.rest.items
    c.loop-driver.closed.list c.loop-driver.history.list (omega (arith, c.in-None.ensures.steps.0, c.loop-driver.driver-iterator.rest.ok.0))
    c.loop-driver.invariant.between in
    ap (λ (l : List Event). count_by is_tick l) c.into_items-2.ensures ∙ all.3

pub returns-clause-history : goal.returns-clause-history
returns-clause-history c =
    c.into_items-2.ensures ∙ c.loop-driver.invariant.between.history_is
    ∙ ap (λ (l : List Closed). flat_map (λ x. x.events) l) (sym c.into_items.ensures)
