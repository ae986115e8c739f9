use Rattle.std.proofs.Common.{◌≡◌, ◌≤◌, ◌∙◌, ◌+◌, List, [], ◌∷◌, ◌++◌, length, map, sym, ap, subst, arith, length-append}
use Rattle.std.specs.Prelude.{All}
use Rattle.std.specs.List.{enumerate_from}
use Rattle.pw_lists.specs.Listed.{Listed}
use Rattle.board_rule.specs.declared.board.Board.{Board}
use Rattle.board_rule.specs.Known.{Known}
use Rattle.std.proofs.lemmas.List.{take_all}
use Rattle.graph_run.specs.Boards.{driver_of, all_seats}
use Rattle.graph_run.specs.Seating.{epoch_board, holder_of}
use Rattle.graph_run.proofs.RowLemmas.{drivers_more, seats_more, same_count, dealt_spare, shapes_more}
use Rattle.graph_run.proofs.ReadyLemmas.{first_leads, as_many, rows_count, rows_long}
use Rattle.graph_run.proofs.boards.boards_with_pools.Goals as goal

pub deal-requires-clause-count : goal.deal-requires-clause-count
deal-requires-clause-count c = same_count c.args.plan.now c.args.waves.now c.args.seating.now.loops c.loop-epoch.boards c.in_ok-board.board c.loop-epoch.epoch
    c.loop-epoch.invariant.count c.loop-epoch.seats.items c.in_ok-board.row c.loop-epoch.invariant.seats c.in_ok-board.ensures.2

pub loop-epoch-preserved : goal.loop-epoch-preserved
loop-epoch-preserved c = let i = c.loop-epoch.invariant in let plan = c.args.plan.now in let waves = c.args.waves.now in let f = holder_of c.args.seating.now in let loops = c.args.seating.now.loops in
    let k = c.loop-epoch.epoch in let bs : List Board = c.loop-epoch.boards in let b : Board = c.in_ok-board.board in let made = c.in_ok-board.ensures in
    let pushed : c.push.new.self ≡ bs ++ b ∷ [] = c.in_ok-push.ensures.ok in
    let grown = length-append bs (b ∷ []) in let count = ap (λ (l : List Board). length l) pushed in record {
      count = omega (arith, count, grown, i.count);
      shapes = ap (λ (l : List Board). map (λ x. x.board_shape) l) pushed ∙ shapes_more plan f loops bs b k i.shapes made.0;
      drivers = c.in_ok-push-2.ensures.ok ∙ (ap (λ (x : List Known × Known). x.0 ++ x.1 ∷ []) (λ j. (i.drivers j, made.1 j))
          ∙ (sym (drivers_more plan waves loops bs b k i.count) ∙ ap (λ (l : List Board). map (driver_of plan waves loops) (enumerate_from 0 l)) (sym pushed)));
      seats = ap (λ (l : List (Listed Known)). map (λ r. r.list) l) c.deal.ensures
          ∙ (seats_more plan waves loops bs b k i.count c.loop-epoch.seats.items c.in_ok-board.row i.seats made.2
          ∙ ap (λ (l : List Board). all_seats plan waves loops l) (sym pushed));
      spare = subst (All (λ (r : Listed Known). c.len-count.result ≤ k + 1 + r.spare)) (sym c.deal.ensures)
          (dealt_spare c.len-count.result k c.loop-epoch.seats.items c.in_ok-board.row c.loop-epoch-test.true i.spare);
    }

pub returns-clause-lead : goal.returns-clause-lead
returns-clause-lead c = let i = c.loop-epoch.invariant in let plan = c.args.plan.now in let f = holder_of c.args.seating.now in let loops = c.args.seating.now.loops in
    let past = c.loop-epoch-test.false in let n = c.len-count.ensures in
    first_leads plan c.args.waves.now f loops c.requires.sound c.requires.seating c.loop-epoch.boards
    (i.shapes ∙ ap (map (epoch_board f loops)) (take_all c.loop-epoch.epoch plan.epochs (omega (arith, past, n))))
    c.loop-epoch.drivers i.drivers

pub returns-clause-rows : goal.returns-clause-rows
returns-clause-rows c = let i = c.loop-epoch.invariant in let plan = c.args.plan.now in let waves = c.args.waves.now in let f = holder_of c.args.seating.now in let loops = c.args.seating.now.loops in
    let past = c.loop-epoch-test.false in let n = c.len-count.ensures in let bs = c.loop-epoch.boards in (
      rows_count plan waves loops bs c.loop-epoch.seats.items i.seats,
      rows_long plan waves loops bs c.loop-epoch.seats.items i.seats (as_many plan f loops bs
          (i.shapes ∙ ap (map (epoch_board f loops)) (take_all c.loop-epoch.epoch plan.epochs (omega (arith, past, n))))),
    )
