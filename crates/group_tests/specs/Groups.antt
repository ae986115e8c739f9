-- Parts whose plans can be run with their waves.
-- Source: this project's own.
use Rattle.std.specs.Prelude.{List, All}
use Rattle.pw_graph.specs.declared.parts.Part.{Part}
use Rattle.pw_graph.specs.SoundPlan.{IsSoundPlan}
use Rattle.wav_files.specs.declared.wav.WavIn.{WavIn}
use Rattle.cycle_model.specs.WavesFit.{WavesFit}

-- EACH PLAN is sound, and the waves are those of its sources
pub record CanRunAll (parts : List Part) (waves : List WavIn) : Type 0 where
  pub sound : All (λ p. IsSoundPlan p.plan) parts
  pub fit : All (λ p. WavesFit p.plan waves) parts
