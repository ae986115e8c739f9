-- The four samples that a word has, and where they go.
-- Source: SPA_AUDIO_FORMAT_S16_LE; four samples a word are this project's own.
use Rattle.std.specs.Prelude.{ℕ, zero, suc, ℤ, ◌+◌, ◌/◌, ◌%◌, List, [], ◌∷◌, slice_set as set}
use Rattle.std.specs.Int.{w16, cast_signed}

-- the sample k of a word, of 16 bits, the lowest first
abbrev pub sample_in : ℕ → ℕ → ℤ
sample_in word zero = cast_signed w16 (word % 65536)
sample_in word (suc zero) = cast_signed w16 (word / 65536 % 65536)
sample_in word (suc (suc zero)) = cast_signed w16 (word / 4294967296 % 65536)
sample_in word (suc (suc (suc k))) = cast_signed w16 (word / 281474976710656)

abbrev pub unpacked : ℕ → List ℤ
unpacked word = sample_in word 0 ∷ sample_in word 1 ∷ sample_in word 2
    ∷ sample_in word 3 ∷ []

-- the list with the four samples from an index on, as far as there are indexes
abbrev pub spread : List ℤ → ℕ → ℕ → List ℤ
spread xs at word = set (set (set (set xs at (sample_in word 0)) (at + 1) (sample_in word 1))
    (at + 2)
    (sample_in word 2)) (at + 3) (sample_in word 3)
