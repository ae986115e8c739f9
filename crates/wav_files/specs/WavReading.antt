-- WAV reading: the list of a file's chunks, and the samples read off it. Source: RIFF WAVE, PCM of
-- 16 bits.
use Rattle.std.specs.Prelude.{◌≡◌, ◌≢◌, ℕ, ◌*◌, ◌%◌, ◌==◌, not, List, [], ◌∷◌, take, drop, if◌then◌else◌, Option}
use Rattle.std.specs.Prelude.{Some, None, Result, Ok, Err}
use Rattle.wav_files.specs.declared.wav.Wav.{Wav}
use Rattle.wav_files.specs.declared.form.Form.{Form}
use Rattle.wav_files.specs.declared.fault.WavFault.{WavFault}
use Rattle.wav_files.specs.declared.fault.WavFault.TheVariants as F
use Rattle.wav_files.specs.Chunks.{Chunk, is_whole, is_format, is_data, is_riff, chunks_of}
use Rattle.wav_files.specs.FormatChunk.{form_of, whole_frames}
pub use Rattle.wav_files.specs.WavSamples.{samples_in, Parts}

-- what a chunk of samples gives: all that is left where its size is the greatest (unknown)
unfoldable pub data_of : Option Form → Chunk → Result Parts WavFault
data_of None chunk = Err F.NoFmt
data_of (Some form) chunk =
    if chunk.size == 4294967295 then Ok (form, whole_frames form chunk.body)
    else if not (is_whole chunk) then Err F.Truncated
    else if not (chunk.size % (2 * form.channels) == 0) then Err F.Uneven
    else Ok (form, take chunk.size chunk.body)

-- a chunk that is passed over leaves what is known
abbrev pub passed : Option Form → Chunk → Result (Option Form) WavFault
passed known chunk = if is_whole chunk then Ok known else Err F.Truncated

-- the form that is known
abbrev pub known_form : Result Form WavFault → Result (Option Form) WavFault
known_form (Ok form) = Ok (Some form)
known_form (Err fault) = Err fault

-- what is known after a chunk of no samples: the form of the first format chunk
unfoldable pub form_after : Option Form → Chunk → Result (Option Form) WavFault
form_after None chunk = if is_format chunk then known_form (form_of chunk) else passed None chunk
form_after (Some form) chunk = passed (Some form) chunk

-- a file that ends before its samples
abbrev pub missing : Option Form → WavFault
missing None = F.NoFmt
missing (Some form) = F.NoData

-- goes on with what is known, unless there was a fault
abbrev pub go_on : Result (Option Form) WavFault → (Option Form → Result Parts WavFault)
    → Result Parts WavFault
go_on (Ok known) f = f known
go_on (Err fault) f = Err fault

-- the form and the bytes of the samples, from a list of chunks
unfoldable pub parts_from : Option Form → List Chunk → Result Parts WavFault
parts_from known [] = Err (missing known)
parts_from known (chunk ∷ chunks) =
    if is_data chunk then data_of known chunk
    else go_on (form_after known chunk) (λ next. parts_from next chunks)

-- the form and the bytes of the samples of a file
unfoldable pub parts_of : List ℕ → Result Parts WavFault
parts_of bytes = if is_riff bytes then parts_from None (chunks_of (drop 12 bytes))
    else Err F.NotRiff

-- the wave of these parts
abbrev pub wave_of : Result Parts WavFault → Result Wav WavFault
wave_of (Ok parts) = Ok
    (record { rate = parts.0.rate; channels = parts.0.channels; samples = samples_in parts.1 })
wave_of (Err fault) = Err fault

-- THE WAVE of a file, or the first that is wrong with it
unfoldable pub wav_of : List ℕ → Result Wav WavFault
wav_of bytes = wave_of (parts_of bytes)

-- the answer is the one that is expected, or says that memory is lacking
abbrev pub IsReading : Result Wav WavFault → Result Wav WavFault → Type 0
IsReading expected (Ok wav) = expected ≡ Ok wav
IsReading expected (Err fault) = fault ≢ F.Memory → expected ≡ Err fault
