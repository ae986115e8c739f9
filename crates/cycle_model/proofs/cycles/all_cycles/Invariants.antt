use Rattle.std.proofs.Common.{◌≡◌, take, sum_by}
use Rattle.cycle_model.proofs.cycles.all_cycles.Given as goal

abbrev pub invariant-loop-epoch : goal.invariant-loop-epoch
invariant-loop-epoch l = l.sum ≡ sum_by (λ e. e.shape.cycles) (take l.epoch-index l.epochs)
