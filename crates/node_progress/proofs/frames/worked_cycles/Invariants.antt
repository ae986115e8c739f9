use Rattle.std.proofs.Common.{◌≡◌, take}
use Rattle.std.specs.Prelude.{sum_by}
use Rattle.node_progress.proofs.FrameLemmas.{own_cycles}
use Rattle.node_progress.proofs.frames.worked_cycles.Given as goal

abbrev pub invariant-loop-epoch : goal.invariant-loop-epoch
invariant-loop-epoch l = l.cycles ≡ sum_by (own_cycles l.node) (take l.epoch-index l.plan.epochs)
