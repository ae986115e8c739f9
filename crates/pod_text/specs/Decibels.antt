-- Gains in decibels: 20 times the decimal logarithm of a factor. Source: the range, and that a
-- gain is the nearest in 1/256, are this project's own.
use Rattle.std.specs.Prelude.{ℕ, ◌+◌, ◌-◌, ◌*◌, ◌^◌, ◌==◌, ◌<◌, ◌≤◌, List, [], ◌∷◌, length, take, drop}
use Rattle.std.specs.Prelude.{Option, None, option_map, ℤ, pos, slice_index, codes, bytes_eq, if◌then◌else◌}
use Rattle.graph_script.specs.Arguments.{number_of}

-- from -60 dB to 42 dB, in 1/256
abbrev pub decibel_gains : List ℕ
decibel_gains =
    0 ∷ 0 ∷ 0 ∷ 0 ∷ 0 ∷ 0 ∷ 1 ∷ 1 ∷ 1 ∷ 1 ∷ 1 ∷ 1 ∷ 1 ∷ 1 ∷ 1 ∷
    1 ∷ 2 ∷ 2 ∷ 2 ∷ 2 ∷ 3 ∷ 3 ∷ 3 ∷ 4 ∷ 4 ∷ 5 ∷ 5 ∷ 6 ∷ 6 ∷ 7 ∷
    8 ∷ 9 ∷ 10 ∷ 11 ∷ 13 ∷ 14 ∷ 16 ∷ 18 ∷ 20 ∷ 23 ∷ 26 ∷ 29 ∷ 32 ∷
    36 ∷ 41 ∷ 46 ∷ 51 ∷ 57 ∷ 64 ∷ 72 ∷ 81 ∷ 91 ∷ 102 ∷ 114 ∷ 128 ∷
    144 ∷ 162 ∷ 181 ∷ 203 ∷ 228 ∷ 256 ∷ 287 ∷ 322 ∷ 362 ∷ 406 ∷ 455 ∷
    511 ∷ 573 ∷ 643 ∷ 722 ∷ 810 ∷ 908 ∷ 1019 ∷ 1144 ∷ 1283 ∷ 1440 ∷ 1615 ∷
    1812 ∷ 2033 ∷ 2282 ∷ 2560 ∷ 2872 ∷ 3223 ∷ 3616 ∷ 4057 ∷ 4552 ∷ 5108 ∷
    5731 ∷ 6430 ∷ 7215 ∷ 8095 ∷ 9083 ∷ 10192 ∷ 11435 ∷ 12830 ∷ 14396 ∷
    16153 ∷ 18123 ∷ 20335 ∷ 22816 ∷ 25600 ∷ 28724 ∷ 32228 ∷ []

-- NEAREST: the gain g of i - 60 decibels is no more than half away from 256 * 10^((i - 60) / 20);
-- both sides are raised to the power of 20
abbrev pub IsNearest : ℕ → ℕ → Type 0
IsNearest i g = ((2 * g - 1) ^ 20 * 10 ^ 60 ≤ 512 ^ 20 * 10 ^ i)
    × (512 ^ 20 * 10 ^ i < (2 * g + 1) ^ 20 * 10 ^ 60)

-- the place of a number of decibels, from -60 to 42
abbrev pub decibel_index : List ℕ → Option ℕ
decibel_index [] = None
decibel_index (first ∷ digits) =
    if first == 0x2D then option_map (λ n. 60 - n) (number_of 1 60 digits)
    else option_map (λ n. 60 + n) (number_of 0 42 (first ∷ digits))

-- a number with the unit dB after it
abbrev pub decibels_of : List ℕ → Option ℤ
decibels_of word =
    if bytes_eq (drop (length word - 2) word) (codes "dB")
    then option_map (λ i. pos (slice_index decibel_gains i))
    (decibel_index (take (length word - 2) word))
    else None
