-- A plan that can be run with its waves.
-- Source: this project's own.
use Rattle.std.specs.Prelude.{List}
use Rattle.pw_graph.specs.declared.plan.Plan.{Plan}
use Rattle.pw_graph.specs.SoundPlan.{IsSoundPlan}
use Rattle.wav_files.specs.declared.wav.WavIn.{WavIn}
use Rattle.cycle_model.specs.WavesFit.{WavesFit}

-- THE PLAN can be run: it is sound, and its waves are those of its sources
pub record CanRun (plan : Plan) (waves : List WavIn) : Type 0 where
  pub sound : IsSoundPlan plan
  pub fit : WavesFit plan waves
