use Rattle.std.proofs.Common.{◌≡◌, take, sum_by}
use Rattle.soak_graph.proofs.line.all_cycles.Given as goal

abbrev pub invariant-loop-epoch : goal.invariant-loop-epoch
invariant-loop-epoch l = l.cycles ≡ sum_by (λ e. e.shape.cycles) (take l.epoch-index l.plan.epochs)
