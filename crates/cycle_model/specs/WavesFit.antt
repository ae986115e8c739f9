-- The waves that a plan is rendered from: one for each of its sources and no other, each in the
-- form of its source's port.
use Rattle.std.specs.Prelude.{◌≡◌, ℕ, ◌==◌, List, All, count_by}
use Rattle.pw_graph.specs.declared.kind.Kind.TheVariants.{Source}
use Rattle.pw_graph.specs.declared.plan.PortForm.{PortForm}
use Rattle.pw_graph.specs.declared.plan.Plan.{Plan}
use Rattle.pw_graph.specs.PlanForms.{kind_at}
use Rattle.wav_files.specs.declared.wav.WavIn.{WavIn}

-- a form of the wave's node has the wave's rate and channels
abbrev pub IsFormOf : WavIn → PortForm → Type 0
IsFormOf wave form = form.port.node ≡ wave.node
    → (form.rate ≡ wave.wav.rate) × (form.channels ≡ wave.wav.channels)

-- a wave is that of a source, in each form that its port has
pub record IsWaveOfSource (plan : Plan) (wave : WavIn) : Type 0 where
  pub source : kind_at plan wave.node ≡ Source
  pub forms : All (λ e. All (IsFormOf wave) e.forms) plan.epochs

pub record WavesFit (plan : Plan) (waves : List WavIn) : Type 0 where
  pub sources : All (IsWaveOfSource plan) waves
  pub one : (node : ℕ) → kind_at plan node ≡ Source
      → count_by (λ w. w.node == node) waves ≡ 1
