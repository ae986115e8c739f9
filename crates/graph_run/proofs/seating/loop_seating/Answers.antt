use Rattle.std.proofs.Common.{◌≡◌, sym, subst}
use Rattle.graph_run.specs.declared.seating.Seating.{Seating}
use Rattle.graph_run.specs.Assignment.{loop_of}
use Rattle.graph_run.specs.Seating.{IsSeatingOf, seated_by}
use Rattle.graph_run.proofs.SeatingLemmas.{seated, loops_seat}
use Rattle.graph_run.proofs.seating.loop_seating.Goals as goal

pub returns : goal.returns
returns c = let plan = c.args.plan.now in let loops = c.args.loops in let f = loop_of plan loops in
    let s : Seating = record { owner = c.in_ok-owner.owner; loops = loops } in
    let is : s ≡ seated_by f plan loops = λ i. record { owner = c.in_ok-owner.ensures i; loops = loops } in record {
      is = is;
      seating = subst (IsSeatingOf plan) (sym is) (seated f plan loops (loops_seat plan loops c.requires.few));
    }
