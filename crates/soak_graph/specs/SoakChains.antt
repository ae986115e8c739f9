-- What is drawn for the graph of a number: chain after chain the samples of its source, its gain
-- and its delay; then which source goes off. This project's own graph.
use Rattle.std.specs.Prelude.{ℕ, ◌+◌, ◌*◌, List, map, ℤ, pos, ◌-ℤ◌}
use Rattle.std.specs.List.{range_with_len}
use Rattle.wav_files.specs.declared.wav.WavIn.{WavIn}
use Rattle.soak_graph.specs.Draws.{draw, samples}

-- the chains, the samples of each, and the draws of each
abbrev pub chains : ℕ
chains = 8

abbrev pub frames : ℕ
frames = 65536

abbrev pub chain_draws : ℕ
chain_draws = frames + 2

-- the samples of chain i, its gain in 1/256, and its delay in frames
abbrev pub chain_samples : ℕ → ℕ → List ℤ
chain_samples number i = samples number (i * chain_draws) frames

abbrev pub gain : ℕ → ℕ → ℤ
gain number i = pos (draw number (i * chain_draws + frames) 513) -ℤ pos 256

abbrev pub delay : ℕ → ℕ → ℕ
delay number i = draw number (i * chain_draws + frames + 1) 1025

-- the chain whose source goes off
abbrev pub off : ℕ → ℕ
off number = draw number (chains * chain_draws) chains

-- the node of the source of chain i, of its gain and of its delay
abbrev pub source_node : ℕ → ℕ
source_node i = 3 * i

abbrev pub gain_node : ℕ → ℕ
gain_node i = 3 * i + 1

abbrev pub delay_node : ℕ → ℕ
delay_node i = 3 * i + 2

-- a mono wave at 48000 for the source of chain i
abbrev pub wave_with : ℕ → List ℤ → WavIn
wave_with i list = record {
  node = source_node i;
  wav = record { rate = 48000; channels = 1; samples = list };
}

-- THE WAVES of a number
abbrev pub soak_wave : ℕ → ℕ → WavIn
soak_wave number i = wave_with i (chain_samples number i)

abbrev pub soak_waves : ℕ → List WavIn
soak_waves number = map (soak_wave number) (range_with_len 0 chains)
