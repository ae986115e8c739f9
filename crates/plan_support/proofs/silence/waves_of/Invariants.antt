-- The waves so far have rates and channels in range.
use Rattle.std.specs.Prelude.{All}
use Rattle.script_inputs.specs.Inputs.{HasForm}
use Rattle.plan_support.proofs.silence.waves_of.Given as goal

abbrev pub invariant-loop-silence : goal.invariant-loop-silence
invariant-loop-silence l = All HasForm l.waves
