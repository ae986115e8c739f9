use Rattle.std.proofs.Common.{take}
use Rattle.std.specs.Prelude.{All}
use Rattle.graph_checks.specs.working.FreshChecks.{NamesWell}
use Rattle.graph_checks.proofs.plan_fresh.all_name_well.Given as goal

abbrev pub invariant-loop-epoch : goal.invariant-loop-epoch
invariant-loop-epoch l = All (NamesWell l.plan) (take l.epoch-index l.epochs)
