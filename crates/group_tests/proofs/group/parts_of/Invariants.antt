use Rattle.std.specs.Prelude.{All}
use Rattle.pw_graph.specs.SoundPlan.{IsSoundPlan}
use Rattle.cycle_model.specs.WavesFit.{WavesFit}
use Rattle.group_tests.proofs.group.parts_of.Given as goal

abbrev pub invariant-loop-text : goal.invariant-loop-text
invariant-loop-text l = record {
  sound : All (λ p. IsSoundPlan p.plan) l.parts;
  fit : All (λ p. WavesFit p.plan l.waves) l.parts;
}
