use Rattle.std.proofs.Common.{◌≡◌, drop, find}
use Rattle.cycle_model.specs.Epochs.{is_within, epoch_at}
use Rattle.cycle_model.proofs.cycles.epoch_at.Given as goal

abbrev pub invariant-loop-epoch : goal.invariant-loop-epoch
invariant-loop-epoch l = epoch_at l.plan l.cycle ≡ find (λ e. is_within e l.cycle) (drop l.epoch-index l.plan.epochs)
