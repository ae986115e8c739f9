use Rattle.std.proofs.Common.{◌≡◌, drop}
use Rattle.cycle_model.specs.working.Known.{given_at}
use Rattle.cycle_model.proofs.inputs.given_at.Given as goal

abbrev pub invariant-loop-one : goal.invariant-loop-one
invariant-loop-one l = given_at l.given l.port ≡ given_at (drop l.one-index l.given) l.port
