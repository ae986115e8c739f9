-- The line of a number: the cycles of its plan, and what the graph's one sink and one meter have
-- kept. Source: the form is this project's own.
use Rattle.std.specs.Prelude.{ℕ, ◌/◌, List, [], ◌∷◌, ◌++◌, length, fold, codes, decimal, ℤ, pos, ◌+ℤ◌}
use Rattle.std.specs.Fmt.{signed_decimal}
use Rattle.pw_graph.specs.declared.plan.Plan.{Plan}
use Rattle.wav_files.specs.declared.wav.Wav.{Wav}
use Rattle.wav_files.specs.declared.outcome.Kept.{Kept}
use Rattle.wav_files.specs.declared.outcome.Peak.{Peak}
use Rattle.wav_files.specs.declared.outcome.Outcome.{Outcome}
use Rattle.cycle_model.specs.Epochs.{all_cycles}

-- the wave of the sink, an empty one where there is no sink
abbrev pub no_wave : Wav
no_wave = record { rate = 48000; channels = 1; samples = [] }

abbrev pub sink_wave : List Kept → Wav
sink_wave [] = no_wave
sink_wave (kept ∷ more) = kept.wav

-- its frames, and the sum of its samples
abbrev pub frames_in : Wav → ℕ
frames_in wav = length wav.samples / wav.channels

abbrev pub sum_of : List ℤ → ℤ
sum_of samples = fold (λ sum s. sum +ℤ s) (pos 0) samples

-- the peak of the meter, 0 where there is no meter
abbrev pub meter_peak : List Peak → ℕ
meter_peak [] = 0
meter_peak (peak ∷ more) = peak.value

-- THE LINE
abbrev pub soak_line : ℕ → Plan → Outcome → List ℕ
soak_line number plan outcome =
    codes "soak " ++ decimal number
    ++ codes " " ++ decimal (all_cycles plan)
    ++ codes " " ++ decimal (frames_in (sink_wave outcome.sinks))
    ++ codes " " ++ signed_decimal (sum_of (sink_wave outcome.sinks).samples)
    ++ codes " " ++ decimal (meter_peak outcome.peaks) ++ codes "\n"
