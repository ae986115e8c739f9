-- The samples of a row of bytes. Source: RIFF WAVE, PCM of 16 bits, little-endian.
use Rattle.std.specs.Prelude.{ℕ, List, [], ◌∷◌, ℤ}
use Rattle.std.specs.Int.{w16, cast_signed}
use Rattle.byteorder.specs.Endian.{little_number}
use Rattle.wav_files.specs.declared.form.Form.{Form}

-- the samples in a row of bytes; a single byte at the end is no sample
abbrev pub samples_in : List ℕ → List ℤ
samples_in [] = []
samples_in (low ∷ []) = []
samples_in (low ∷ high ∷ rest) = cast_signed w16 (little_number 2 (low ∷ high ∷ []))
    ∷ samples_in rest

-- the most samples of a piece, in which waves are read and written
abbrev pub piece_limit : ℕ
piece_limit = 4096

-- the form of the samples, and their bytes
abbrev pub Parts : Type 0
Parts = Form × List ℕ
