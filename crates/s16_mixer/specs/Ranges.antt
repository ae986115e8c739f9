-- Ranges: the numbers that the kernels take. S16 PCM, interleaved; gains are factors in 1/256, of
-- -32767 to 32767.
-- Source: SPA_AUDIO_FORMAT_S16_LE; the ranges are this project's.
use Rattle.std.specs.Prelude.{ℕ, ℤ, pos, neg_ℤ, ◌*◌, ◌≤ℤ◌}
pub use Rattle.pw_lists.specs.Samples.{IsGain}

-- a sum of at most 255 samples, to which one more can be added
abbrev pub HasRoom : ℤ → Type 0
HasRoom sum = (neg_ℤ (pos 8355840) ≤ℤ sum) × (sum ≤ℤ pos 8355585)

-- a sum of n samples of 16 bits; a sample is one of itself
abbrev pub IsWithin : ℕ → ℤ → Type 0
IsWithin n sum = (neg_ℤ (pos (32768 * n)) ≤ℤ sum) × (sum ≤ℤ pos (32767 * n))
