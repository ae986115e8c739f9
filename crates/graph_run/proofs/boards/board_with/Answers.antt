use Rattle.std.proofs.Common.{◌≡◌, ℕ, ◌+◌, List, Some, get_or, sym, ap, ◌∙◌, subst}
use Rattle.std.specs.Prelude.{option_map}
use Rattle.std.proofs.lemmas.List.{get_or_default}
use Rattle.std.proofs.lemmas.Option.{slice_get-get_or, get_or_from_slice_get}
use Rattle.std.proofs.lemmas.List.FromFn.{fill_by_all}
use Rattle.pw_graph.specs.declared.plan.Epoch.{Epoch}
use Rattle.data_loop.proofs.PlanPoolsLemmas.{pools_here}
use Rattle.board_rule.specs.declared.board.Board.{Board}
use Rattle.board_rule.specs.Layout.{HasSeats, layout_of}
use Rattle.board_rule.specs.buffers.SampleWords.{IsTable}
use Rattle.board_rule.specs.View.{Samples, loop_view, driver_view}
use Rattle.board_rule.specs.OnBoard.{table_of, layout}
use Rattle.graph_run.specs.Boards.{seat_of}
use Rattle.graph_run.specs.Seating.{epoch_board, holder_of}
use Rattle.graph_run.proofs.AssignmentLemmas.{has_seats}
use Rattle.graph_run.proofs.BoardLemmas.{is_table}
use Rattle.graph_run.proofs.boards.board_with.Goals as goal

pub with_pools-requires-clause-pools : goal.with_pools-requires-clause-pools
with_pools-requires-clause-pools g c = let plan = c.args.plan.now in let k = c.args.epoch in let x : Epoch = c.index-as_slice-epoch.result in
    let e : Epoch = get_or c.as_slice.result.now k x in
    let here : e ≡ get_or plan.epochs k e = ap (λ (l : List Epoch). get_or l k x) c.as_slice.ensures
    ∙ get_or_default plan.epochs k x e c.requires.inside in
    c.as_slice-pools.ensures
    ∙ pools_here plan k e c.requires.inside here c.args.pools.now c.index-pools-epoch.result c.requires.pools c.index-pools-epoch.is

pub with_pools-requires-clause-seats : goal.with_pools-requires-clause-seats
with_pools-requires-clause-seats g c = let e : Epoch = get_or c.as_slice.result.now c.args.epoch c.index-as_slice-epoch.result in
    subst (λ row. HasSeats (record { shape = e.shape; seat_of = row; seats = c.args.seating.now.loops + 1 })) (sym c.in_ok-seat_of.ensures)
    (has_seats (holder_of c.args.seating.now) c.args.seating.now.loops c.requires.seating.most e)

pub with_pools-requires-clause-samples : goal.with_pools-requires-clause-samples
with_pools-requires-clause-samples g c = let e : Epoch = get_or c.as_slice.result.now c.args.epoch c.index-as_slice-epoch.result in
    let at = slice_get-get_or c.args.plan.now.epochs c.args.epoch c.index-as_slice-epoch.result c.requires.inside
    ∙ ap (λ (es : List Epoch). Some (get_or es c.args.epoch c.index-as_slice-epoch.result)) (sym c.as_slice.ensures) in
    let table = is_table c.args.plan.now c.args.waves.now (holder_of c.args.seating.now) c.args.seating.now.loops c.requires.sound c.requires.fit c.requires.short c.args.epoch e at in
    subst (λ (x : List ℕ × Samples). IsTable (layout_of (record { shape = e.shape; seat_of = x.0; seats = c.args.seating.now.loops + 1 })) x.1)
    (λ i. (sym c.in_ok-seat_of.ensures i, sym c.requires.table i)) table

pub returns : goal.returns
returns g c = let e : Epoch = get_or c.as_slice.result.now c.args.epoch c.index-as_slice-epoch.result in
    let plan = c.args.plan.now in let waves = c.args.waves.now in let f = holder_of c.args.seating.now in let loops = c.args.seating.now.loops in let k = c.args.epoch in
    let at = slice_get-get_or plan.epochs k c.index-as_slice-epoch.result c.requires.inside
    ∙ ap (λ (es : List Epoch). Some (get_or es k c.index-as_slice-epoch.result)) (sym c.as_slice.ensures) in
    let b : Board = c.in_ok-made.made.0 in let made = c.in_ok-made.ensures in
    let shape_is : b.board_shape ≡ epoch_board f loops e = made.board_shape
    ∙ ap (λ (row : List ℕ). record { shape = e.shape; seat_of = row; seats = loops + 1 }) c.in_ok-seat_of.ensures in
    let expect = c.requires.table in (
      ap (option_map (epoch_board f loops)) at ∙ ap Some (sym shape_is),
      made.driver ∙ ap (λ (s : Samples). record { table = table_of b; knows = driver_view (layout b) s (loops + 1) }) expect,
      fill_by_all (λ i. seat_of plan waves loops i (k, b)) c.in_ok-made.made.2 (loops + 1) c.in_ok-made.made.1 made.count
          (λ i lt. get_or_from_slice_get c.in_ok-made.made.2 i _ c.in_ok-made.made.1 (made.loops i lt)
          ∙ ap (λ (s : Samples). record { table = table_of b; knows = loop_view (layout b) s i }) expect),
    )
