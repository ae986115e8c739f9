-- Numbers in plain decimal. Source: this project's own.
use Rattle.std.specs.Prelude.{ℕ, ◌+◌, ◌-◌, ◌*◌, ◌==◌, ◌&&◌, ◌||◌, Bool, false, not, nat_le, if◌then◌else◌, List, [], ◌∷◌}
use Rattle.std.specs.Prelude.{length, fold, Option, Some, None}
use Rattle.std.specs.List.{list_all}

-- 0 to 9
abbrev pub is_digit : ℕ → Bool
is_digit b = nat_le 0x30 b && nat_le b 0x39

-- digits, at least one, the first not 0 unless it is the only one
abbrev pub is_numeral : List ℕ → Bool
is_numeral [] = false
is_numeral (first ∷ rest) =
    list_all is_digit (first ∷ rest) && (not (first == 0x30) || length rest == 0)

-- the number that digits name, in base 10
abbrev pub digits_number : List ℕ → ℕ
digits_number digits = fold (λ n b. n * 10 + (b - 0x30)) 0 digits

-- a number without sign, from low to high
abbrev pub number_of : ℕ → ℕ → List ℕ → Option ℕ
number_of low high word = if is_numeral word && (nat_le low (digits_number word)
    && nat_le (digits_number word) high)
    then Some (digits_number word) else None
