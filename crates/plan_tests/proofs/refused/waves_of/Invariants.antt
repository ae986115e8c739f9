-- The waves so far have rates and channels in range.
use Rattle.std.specs.Prelude.{All}
use Rattle.script_inputs.specs.Inputs.{HasForm}
use Rattle.plan_tests.proofs.refused.waves_of.Given as goal

abbrev pub invariant-loop-voice : goal.invariant-loop-voice
invariant-loop-voice l = All HasForm l.waves
