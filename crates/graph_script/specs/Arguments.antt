-- Arguments of commands: numbers, lists, names and endpoints, each one word. Source: the forms are
-- this project's own.
use Rattle.std.specs.Prelude.{ℕ, ◌+◌, ◌-◌, ◌*◌, ◌==◌, ◌&&◌, ◌||◌, Bool, false, not, List, [], ◌∷◌, length, fold, Option, Some}
use Rattle.std.specs.Prelude.{None, option_map, is_some, nat_le, ℤ, pos, neg_ℤ, map, if◌then◌else◌}
use Rattle.std.specs.List.{list_all, slice_split}
use Rattle.pw_lists.specs.Limits.{channels_limit}
use Rattle.graph_script.specs.Limits.{name_rest_limit}

abbrev pub is_within : ℕ → ℕ → ℕ → Bool
is_within low high n = nat_le low n && nat_le n high

-- 0 to 9, a to z
abbrev pub is_digit : ℕ → Bool
is_digit b = is_within 0x30 0x39 b

abbrev pub is_letter : ℕ → Bool
is_letter b = is_within 0x61 0x7A b

-- digits, at least one, the first not 0 unless it is the only one
abbrev pub is_numeral : List ℕ → Bool
is_numeral [] = false
is_numeral (first ∷ rest) =
    list_all is_digit (first ∷ rest) && (not (first == 0x30) || length rest == 0)

-- the number that digits name, in base 10
abbrev pub digits_number : List ℕ → ℕ
digits_number digits = fold (λ n b. n * 10 + (b - 0x30)) 0 digits

-- a number without sign, from low to high
abbrev pub number_of : ℕ → ℕ → List ℕ → Option ℕ
number_of low high word =
    if is_numeral word && is_within low high (digits_number word)
    then Some (digits_number word) else None

-- a number up to high, or a minus sign and such a number that is not 0
abbrev pub integer_of : ℕ → List ℕ → Option ℤ
integer_of high [] = None
integer_of high (first ∷ digits) =
    if first == 0x2D then option_map (λ n. neg_ℤ (pos n)) (number_of 1 high digits)
    else option_map (λ n. pos n) (number_of 0 high (first ∷ digits))

-- numbers of channels, parted by single commas: at most 8, each from 0 to `channels` - 1
abbrev pub is_comma : ℕ → Bool
is_comma b = b == 0x2C

abbrev pub is_channel : ℕ → List ℕ → Bool
is_channel channels item = is_some (number_of 0 (channels - 1) item)

abbrev pub channel_list : ℕ → List ℕ → Option (List ℕ)
channel_list channels word =
    if list_all (is_channel channels) (slice_split is_comma word)
    && nat_le (length (slice_split is_comma word)) channels_limit
    then Some (map digits_number (slice_split is_comma word)) else None

-- the name of a node: a letter, and up to 30 letters, digits and low lines
abbrev pub is_name_byte : ℕ → Bool
is_name_byte b = is_letter b || is_digit b || b == 0x5F

abbrev pub is_node_name : List ℕ → Bool
is_node_name [] = false
is_node_name (first ∷ rest) =
    is_letter first && nat_le (length rest) name_rest_limit && list_all is_name_byte rest

-- an endpoint is parted by one dot: what is before it and after it
abbrev pub is_dot : ℕ → Bool
is_dot b = b == 0x2E

abbrev pub two_of : List (List ℕ) → Option (List ℕ × List ℕ)
two_of [] = None
two_of (a ∷ []) = None
two_of (a ∷ b ∷ []) = Some (a, b)
two_of (a ∷ b ∷ c ∷ more) = None

abbrev pub endpoint_parts : List ℕ → Option (List ℕ × List ℕ)
endpoint_parts word = two_of (slice_split is_dot word)
