-- Bytes of a dump's line, two lower-case digits of base 16 each, and what is between quotes.
-- Source: this project's own.
use Rattle.std.specs.Prelude.{ℕ, ◌+◌, ◌-◌, ◌*◌, ◌==◌, ◌&&◌, nat_le, if◌then◌else◌, List, [], ◌∷◌, length}
use Rattle.std.specs.Prelude.{Option, Some, None, option_map, option_and_then}
use Rattle.std.specs.Int.{w32, w64, from_be_bytes}
use Rattle.dump_reading.specs.working.Cutting.{cut_at}

-- a digit, 0 to 9 or a to f
unfoldable pub digit_said : ℕ → Option ℕ
digit_said c = if nat_le 0x30 c && nat_le c 0x39 then Some (c - 0x30)
    else (if nat_le 0x61 c && nat_le c 0x66 then Some (c - 0x57) else None)

abbrev pub byte_of : Option ℕ → Option ℕ → Option ℕ
byte_of None low = None
byte_of (Some h) None = None
byte_of (Some h) (Some l) = Some (16 * h + l)

unfoldable pub byte_said : ℕ → ℕ → Option ℕ
byte_said high low = byte_of (digit_said high) (digit_said low)

-- bytes, two digits each
abbrev pub onto : Option ℕ → Option (List ℕ) → Option (List ℕ)
onto None rest = None
onto (Some b) rest = option_map (λ bs. b ∷ bs) rest

unfoldable pub hex_said : List ℕ → Option (List ℕ)
hex_said [] = Some []
hex_said (h ∷ []) = None
hex_said (h ∷ l ∷ rest) = onto (byte_said h l) (hex_said rest)

-- the number of 32 or 64 bits in four or eight bytes, the highest first
abbrev pub four_said : List ℕ → Option ℕ
four_said bytes = if length bytes == 4 then Some (from_be_bytes w32 bytes) else None

abbrev pub eight_said : List ℕ → Option ℕ
eight_said bytes = if length bytes == 8 then Some (from_be_bytes w64 bytes) else None

-- what is between two quotes
abbrev pub inner_of : Option (List ℕ × List ℕ) → Option (List ℕ)
inner_of None = None
inner_of (Some c) = if length c.1 == 0 then Some c.0 else None

unfoldable pub unquoted : List ℕ → Option (List ℕ)
unquoted [] = None
unquoted (first ∷ rest) = if first == 34 then inner_of (cut_at 34 rest) else None

-- bits of eight or sixteen digits, and bytes between quotes
unfoldable pub float_said : List ℕ → Option ℕ
float_said digits = option_and_then four_said (hex_said digits)

unfoldable pub double_said : List ℕ → Option ℕ
double_said digits = option_and_then eight_said (hex_said digits)

unfoldable pub quoted_hex_said : List ℕ → Option (List ℕ)
quoted_hex_said args = option_and_then hex_said (unquoted args)
