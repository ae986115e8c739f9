use Rattle.std.proofs.Common.{◌≡◌, ◌∙◌, ℕ, false, List, [], ◌∷◌, ◌++◌, length, refl, sym, ap, subst, arith, length-append}
use Rattle.std.specs.Prelude.{All, Option, option_to_list, replicate}
use Rattle.ready_queues.specs.declared.way.Way.{Way}
use Rattle.ready_queues.specs.AnsweredWith.{IsWayOf}
use Rattle.data_loop.specs.declared.loop_state.LoopState.{LoopState}
use Rattle.graph_run.specs.declared.opening.OpenedRun.{OpenedRun}
use Rattle.graph_run.specs.Assignment.{cell_number, cell_count}
use Rattle.graph_run.proofs.OpenedLemmas.{opened_by}
use Rattle.graph_run.proofs.SeatingLemmas.{loops_are, cells_seat}
use Rattle.steal_shelf.specs.declared.shelf.ShelfSeat.{ShelfSeat}
use Rattle.steal_loops.specs.declared.shared.Shared.{Shared}
use Rattle.steal_loops.specs.declared.claimant.Claimant.{Claimant}
use Rattle.steal_loops.specs.working.Cells.{AreCells}
use Rattle.steal_loops.specs.working.Crews.{HasNode}
use Rattle.steal_loops.specs.working.Claimants.{IsUnusedSeat}
use Rattle.steal_loops.proofs.PrepareLemmas.{front, back, few_nodes, workers_ways, all_first, all_alike, node_there, are_cells, new_claimant, drives}
use Rattle.steal_loops.proofs.preparing.prepare.Goals as goal

pub new-requires-clause-cells : goal.new-requires-clause-cells
new-requires-clause-cells c = let plan = c.args.plan.now in let waves = c.args.waves.now in let o : OpenedRun = c.in_ok-boards.field-0 in
    all_first plan waves o (opened_by (cell_number plan) plan (cell_count plan) c.in_ok-seating.seating c.in_ok-seating.ensures.is c.requires.sound
    (cells_seat plan (few_nodes plan c.requires.sound)) waves o c.in_ok-boards.ensures)

pub new-requires-clause-alike : goal.new-requires-clause-alike
new-requires-clause-alike c = let plan = c.args.plan.now in let waves = c.args.waves.now in let o : OpenedRun = c.in_ok-boards.field-0 in
    all_alike plan waves o (opened_by (cell_number plan) plan (cell_count plan) c.in_ok-seating.seating c.in_ok-seating.ensures.is c.requires.sound
    (cells_seat plan (few_nodes plan c.requires.sound)) waves o c.in_ok-boards.ensures)

pub claimants_of-requires : goal.claimants_of-requires
claimants_of-requires c = let plan = c.args.plan.now in let waves = c.args.waves.now in let o : OpenedRun = c.in_ok-boards.field-0 in
    let f = cell_number plan in let n = cell_count plan in let few = cells_seat plan (few_nodes plan c.requires.sound) in
    let s = c.in_ok-seating.seating in let on = c.in_ok-seating.ensures.is in
    let opened = opened_by f plan n s on c.requires.sound few waves o c.in_ok-boards.ensures in let w = c.in_ok-ways.ensures in let made = c.in_ok-shelf.ensures in
    let shared : Shared = record { boards = o.boards; ways = c.in_ok-ways.ways; signs = c.new-signs.result; shelf = c.in_ok-shelf.shelf; seating = s; run_model = c.of.result } in
    let seat : ShelfSeat = c.unwrap-seat.result in let left : List ShelfSeat = c.pop.new.self in
    let whole : c.in_ok-shelf.seats ≡ left ++ seat ∷ [] = c.pop.ensures.list ∙ ap (λ (x : Option ShelfSeat). left ++ option_to_list x) c.unwrap-seat.ensures in
    let unused : All (IsUnusedSeat c.in_ok-shelf.shelf) c.in_ok-shelf.seats = λ i d low. (made.seats i d low, made.new i d low) in
    let long = ap (λ (l : List ShelfSeat). length l) whole in let parts = length-append left (seat ∷ []) in let many = made.count in let ways = w.count in record {
      cells = are_cells plan waves o opened shared refl c.of.ensures.plan c.of.ensures.waves made.cells (loops_are f plan n s on) few.few c.new-signs.ensures;
      seats = front (IsUnusedSeat c.in_ok-shelf.shelf) left (seat ∷ []) (subst (All (IsUnusedSeat c.in_ok-shelf.shelf)) whole unused);
      ways = workers_ways c.in_ok-ways.ways c.args.loops c.in_ok-ways.others w.loops w.count w.ways;
      count = omega (arith, long, parts, many, ways);
    }

pub returns : goal.returns
returns c = let plan = c.args.plan.now in let waves = c.args.waves.now in let o : OpenedRun = c.in_ok-boards.field-0 in
    let f = cell_number plan in let n = cell_count plan in let seating = cells_seat plan (few_nodes plan c.requires.sound) in
    let s = c.in_ok-seating.seating in let on = c.in_ok-seating.ensures.is in
    let opened = opened_by f plan n s on c.requires.sound seating waves o c.in_ok-boards.ensures in
    let w = c.in_ok-ways.ensures in let made = c.in_ok-shelf.ensures in let p = c.of.ensures.plan in let v = c.of.ensures.waves in
    let shared : Shared = record { boards = o.boards; ways = c.in_ok-ways.ways; signs = c.new-signs.result; shelf = c.in_ok-shelf.shelf; seating = s; run_model = c.of.result } in
    let seat : ShelfSeat = c.unwrap-seat.result in let left : List ShelfSeat = c.pop.new.self in
    let whole : c.in_ok-shelf.seats ≡ left ++ seat ∷ [] = c.pop.ensures.list ∙ ap (λ (x : Option ShelfSeat). left ++ option_to_list x) c.unwrap-seat.ensures in
    let cells : AreCells shared = are_cells plan waves o opened shared refl p v made.cells (loops_are f plan n s on) seating.few c.new-signs.ensures in
    let unused : All (IsUnusedSeat c.in_ok-shelf.shelf) c.in_ok-shelf.seats = λ i d low. (made.seats i d low, made.new i d low) in
    let claimant : Claimant = c.in_ok-claimant.claimant in let t = c.in_ok-claimant.ensures in let way = sym t.way in
    let is = new_claimant shared cells claimant
    (subst (IsUnusedSeat shared.shelf) (sym t.seat) (back (IsUnusedSeat shared.shelf) left seat (subst (All (IsUnusedSeat shared.shelf)) whole unused)))
    (subst (IsWayOf shared.ways) way w.driver.answered) (t.ended ∙ ap (λ (k : ℕ). replicate k false) c.loops.ensures) in record {
      plan_is = p;
      waves_are = v;
      shapes = opened.shapes;
      drivers = opened.drivers;
      owner = w.owner;
      loops_are = w.loops;
      cells = cells;
      workers = c.in_ok-workers.ensures.workers;
      can_drive = drives plan waves o opened shared refl p v claimant (is, ap (λ (x : Way). x.number) t.way ∙ (w.driver.loop_is ∙ sym w.loops));
      count = c.in_ok-workers.ensures.count ∙ w.count;
      nodes = λ k low. subst (λ (l : List LoopState). HasNode o.own l k) (sym made.cells) (node_there plan waves o opened seating k low);
    }
