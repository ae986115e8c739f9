-- The waves so far are those of the voices so far.
use Rattle.std.proofs.Common.{◌≡◌, take}
use Rattle.std.specs.Prelude.{All, map}
use Rattle.script_inputs.specs.Inputs.{HasForm}
use Rattle.host_example.specs.Voices.{mono}
use Rattle.host_example.proofs.voices.waves_of.Given as goal

abbrev pub invariant-loop-samples : goal.invariant-loop-samples
invariant-loop-samples l = record {
  waves : l.waves ≡ map mono (map (λ v. v.now) (take l.samples-index l.voices));
  forms : All HasForm l.waves;
}
