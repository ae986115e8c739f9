use Rattle.std.proofs.Common.{◌≡◌, sym, subst}
use Rattle.graph_run.specs.declared.seating.Seating.{Seating}
use Rattle.graph_run.specs.Assignment.{cell_number, cell_count}
use Rattle.graph_run.specs.Seating.{IsSeatingOf, seated_by}
use Rattle.graph_run.proofs.SeatingLemmas.{seated, cells_seat}
use Rattle.graph_run.proofs.seating.cell_seating.Goals as goal

pub returns : goal.returns
returns c = let plan = c.args.plan.now in let f = cell_number plan in let n = cell_count plan in let many = c.count_cells-loops.ensures in
    let s : Seating = record { owner = c.in_ok-owner.owner; loops = c.count_cells-loops.result } in
    let is : s ≡ seated_by f plan n = λ i. record { owner = c.in_ok-owner.ensures i; loops = many i } in record {
      is = is;
      seating = subst (IsSeatingOf plan) (sym is) (seated f plan n (cells_seat plan c.requires.nodes));
    }
