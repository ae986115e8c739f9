-- WAV writing: the bytes of a wave. Source: RIFF WAVE, PCM of 16 bits; numbers little-endian.
use Rattle.std.specs.Prelude.{◌≡◌, ℕ, ◌+◌, ◌*◌, ◌%◌, ◌≤◌, List, ◌++◌, length, codes, flat_map, ℤ}
use Rattle.std.specs.Int.{w16, cast_unsigned}
use Rattle.byteorder.specs.Endian.{little_bytes}
use Rattle.pw_lists.specs.Limits.{rate_limit, channels_limit, sink_samples_limit}
use Rattle.wav_files.specs.declared.wav.Wav.{Wav}

-- a number of 16 bits
abbrev pub u16_bytes : ℕ → List ℕ
u16_bytes n = little_bytes 2 n

-- a number of 32 bits
abbrev pub u32_bytes : ℕ → List ℕ
u32_bytes n = little_bytes 4 n

-- samples, as two's complement
abbrev pub sample_bytes : List ℤ → List ℕ
sample_bytes samples = flat_map (λ s. little_bytes 2 (cast_unsigned w16 s)) samples

-- the chunk "fmt " of PCM: tag 1, channels, rate, bytes a second, bytes a frame, bits a sample
abbrev pub format_chunk : ℕ → ℕ → List ℕ
format_chunk rate channels =
    codes "fmt " ++ u32_bytes 16 ++ u16_bytes 1 ++ u16_bytes channels ++ u32_bytes rate
    ++ u32_bytes (2 * channels * rate) ++ u16_bytes (2 * channels) ++ u16_bytes 16

-- the 44 bytes before `size` bytes of samples
abbrev pub wav_header : ℕ → ℕ → ℕ → List ℕ
wav_header rate channels size =
    codes "RIFF" ++ u32_bytes (36 + size)
    ++ codes "WAVE" ++ format_chunk rate channels ++ codes "data" ++ u32_bytes size

-- the whole file of a wave
abbrev pub wav_bytes : Wav → List ℕ
wav_bytes wav = wav_header wav.rate wav.channels (2 * length wav.samples)
    ++ sample_bytes wav.samples

-- a wave that can be written: its rate and channels in range, whole frames, and not too many
-- samples
pub record IsWave (wav : Wav) : Type 0 where
  pub rate : (1 ≤ wav.rate) × (wav.rate ≤ rate_limit)
  pub channels : (1 ≤ wav.channels) × (wav.channels ≤ channels_limit)
  pub whole : length wav.samples % wav.channels ≡ 0
  pub small : length wav.samples ≤ sink_samples_limit
