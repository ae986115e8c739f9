-- The format chunk of a WAV file. Source: RIFF WAVE, WAVEFORMATEX and WAVEFORMATEXTENSIBLE;
-- numbers little-endian.
use Rattle.std.specs.Prelude.{ℕ, ◌*◌, ◌-◌, ◌%◌, ◌≤◌, ◌==◌, ◌&&◌, ◌||◌, not, Bool, nat_lt, nat_le, if◌then◌else◌, List, []}
use Rattle.std.specs.Prelude.{◌∷◌, length, take, drop, bytes_eq, Result, Ok, Err}
use Rattle.byteorder.specs.Endian.{little_number}
use Rattle.pw_lists.specs.Limits.{rate_limit, channels_limit}
use Rattle.wav_files.specs.declared.form.Form.{Form}
use Rattle.wav_files.specs.declared.fault.WavFault.{WavFault}
use Rattle.wav_files.specs.declared.fault.WavFault.TheVariants as F
use Rattle.wav_files.specs.Chunks.{Chunk, is_whole}

-- its tag: 1 for PCM, 65534 for an extensible chunk, whose subformat says what it is
abbrev pub tag : Chunk → ℕ
tag chunk = little_number 2 chunk.body

-- its frames a second, and its samples a frame
abbrev pub named_form : Chunk → Form
named_form chunk = record {
  rate = little_number 4 (drop 4 chunk.body);
  channels = little_number 2 (drop 2 chunk.body);
}

-- its bytes a frame
abbrev pub block_align : Chunk → ℕ
block_align chunk = little_number 2 (drop 12 chunk.body)

-- its bits a sample
abbrev pub bits : Chunk → ℕ
bits chunk = little_number 2 (drop 14 chunk.body)

-- the subformat of an extensible chunk
abbrev pub subformat : Chunk → List ℕ
subformat chunk = take 16 (drop 24 chunk.body)

-- the subformat of PCM
abbrev pub pcm : List ℕ
pcm = 1 ∷ 0 ∷ 0 ∷ 0 ∷ 0 ∷ 0 ∷ 16 ∷ 0 ∷ 128 ∷ 0 ∷ 0 ∷ 170 ∷ 0 ∷ 56 ∷ 155
    ∷ 113 ∷ []

-- the chunk says that it is extensible
abbrev pub is_extensible : Chunk → Bool
is_extensible chunk = tag chunk == 65534

-- the chunk says that samples are PCM of 16 bits
abbrev pub is_pcm16 : Chunk → Bool
is_pcm16 chunk = ((tag chunk == 1) || (is_extensible chunk && bytes_eq (subformat chunk) pcm))
    && (bits chunk == 16)

-- a rate and channels in their ranges
abbrev pub is_form : Form → Bool
is_form form = nat_le 1 form.rate && nat_le form.rate rate_limit && nat_le 1 form.channels
    && nat_le form.channels channels_limit

-- the same as a fact
abbrev pub IsForm : Form → Type 0
IsForm form = (1 ≤ form.rate) × (form.rate ≤ rate_limit) × (1 ≤ form.channels)
    × (form.channels ≤ channels_limit)

-- what a format chunk gives: the first that is wrong with it, or its form
unfoldable pub form_of : Chunk → Result Form WavFault
form_of chunk =
    if nat_lt chunk.size 16 then Err F.BadFmt
    else if not (is_whole chunk) then Err F.Truncated
    else if is_extensible chunk && nat_lt chunk.size 40 then Err F.BadFmt
    else if not (is_pcm16 chunk) then Err F.NotPcm16
    else if not (is_form (named_form chunk)) then Err F.ChannelsOrRate
    else if not (block_align chunk == 2 * (named_form chunk).channels) then Err F.BadFmt
    else Ok (named_form chunk)

-- the whole frames that bytes begin with
abbrev pub whole_frames : Form → List ℕ → List ℕ
whole_frames form bytes = take (length bytes - length bytes % (2 * form.channels)) bytes
