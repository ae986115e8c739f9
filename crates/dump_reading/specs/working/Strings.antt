-- A string of a dump's line, in which `\x` and two digits stand for a byte that is not shown as it
-- is. Source: this project's own.
use Rattle.std.specs.Prelude.{ℕ, ◌+◌, ◌*◌, ◌==◌, if◌then◌else◌, List, [], ◌∷◌, ◌++◌, fold}
use Rattle.std.specs.Prelude.{Option, Some, None, option_map, option_and_then}
use Rattle.pod_codec.specs.DumpWords.{is_plain}
use Rattle.dump_reading.specs.working.Bytes.{digit_said, unquoted}
use Rattle.dump_reading.specs.declared.strings.Escape.{Escape}
use Rattle.dump_reading.specs.declared.strings.Escape.TheVariants as E

-- the next byte of a string: where the string is after it, and the byte that is whole with it
abbrev pub high_of : Option ℕ → Option (Escape × Option ℕ)
high_of None = None
high_of (Some h) = Some (E.High h, None)

abbrev pub low_of : ℕ → Option ℕ → Option (Escape × Option ℕ)
low_of h None = None
low_of h (Some l) = if is_plain (16 * h + l) then None else Some (E.Outside, Some (16 * h + l))

abbrev pub step : Escape → ℕ → Option (Escape × Option ℕ)
step E.Outside b = if b == 92 then Some (E.Slash, None)
    else (if is_plain b then Some (E.Outside, Some b) else None)
step E.Slash b = if b == 120 then Some (E.Mark, None) else None
step E.Mark b = high_of (digit_said b)
step (E.High h) b = low_of h (digit_said b)

-- with a byte that is whole
abbrev pub pushed : List ℕ → Option ℕ → List ℕ
pushed bytes None = bytes
pushed bytes (Some b) = bytes ++ b ∷ []

abbrev pub read_byte : Option (Escape × List ℕ) → ℕ → Option (Escape × List ℕ)
read_byte None b = None
read_byte (Some s) b = option_map (λ n. (n.0, pushed s.1 n.1)) (step s.0 b)

-- the bytes of a string that ends outside of an escape
abbrev pub ended : Escape → List ℕ → Option (List ℕ)
ended E.Outside bytes = Some bytes
ended other bytes = None

abbrev pub whole : Option (Escape × List ℕ) → Option (List ℕ)
whole None = None
whole (Some s) = ended s.0 s.1

unfoldable pub string_said : List ℕ → Option (List ℕ)
string_said bytes = whole (fold read_byte (Some (E.Outside, [])) bytes)

-- the same between quotes
unfoldable pub quoted_said : List ℕ → Option (List ℕ)
quoted_said args = option_and_then string_said (unquoted args)
