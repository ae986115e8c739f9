-- The samples that a board of an epoch has to give, by cycle and by pool, and samples of 16 bits.
-- Source: SPA_AUDIO_FORMAT_S16_LE; one pool an output port that has a link is this project's.
use Rattle.std.specs.Prelude.{ℕ, List, All, map, slice_get, ℤ, pos, neg_ℤ, ◌≤ℤ◌}
use Rattle.std.specs.List.{range_with_len}
use Rattle.pw_graph.specs.declared.plan.Epoch.{Epoch}
use Rattle.pw_graph.specs.declared.plan.Plan.{Plan}
use Rattle.pw_graph.specs.Pools.{pools_of}
use Rattle.wav_files.specs.declared.wav.WavIn.{WavIn}
use Rattle.cycle_model.specs.Epochs.{listed}
use Rattle.cycle_model.specs.Cycle.{outputs}

-- what each pool of an epoch gives in each of its cycles: by cycle of the epoch, by pool
abbrev pub epoch_rows : Plan → List WavIn → Epoch → List (List (List ℤ))
epoch_rows plan waves e =
    map (λ c. map (λ x. outputs plan waves c x.port) (pools_of e.shape))
    (range_with_len e.shape.first e.shape.cycles)

-- EXPECTED SAMPLES of epoch k of the plan, counted from 0; nothing past the last
unfoldable pub expected_samples : Plan → List WavIn → ℕ → List (List (List ℤ))
expected_samples plan waves k = listed (epoch_rows plan waves) (slice_get plan.epochs k)

-- a sample of 16 bits
abbrev pub IsShort : ℤ → Type 0
IsShort s = (neg_ℤ (pos 32768) ≤ℤ s) × (s ≤ℤ pos 32767)

-- so are all those of the waves
abbrev pub AreShort : List WavIn → Type 0
AreShort waves = All (λ w. All IsShort w.wav.samples) waves
