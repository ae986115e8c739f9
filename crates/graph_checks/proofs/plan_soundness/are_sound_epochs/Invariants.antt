use Rattle.std.proofs.Common.{take}
use Rattle.std.specs.Prelude.{All}
use Rattle.pw_graph.specs.SoundPlan.{IsSoundEpoch}
use Rattle.graph_checks.proofs.plan_soundness.are_sound_epochs.Given as goal

abbrev pub invariant-loop-epoch : goal.invariant-loop-epoch
invariant-loop-epoch l = All (IsSoundEpoch l.plan) (take l.epoch-index l.epochs)
