-- Numbers of a dump's line, in decimal digits. Source: this project's own.
use Rattle.std.specs.Prelude.{ℕ, ◌+◌, ◌==◌, if◌then◌else◌, ℤ, pos, neg_ℤ, List, [], ◌∷◌, Option, Some, None, option_map}
use Rattle.dump_reading.specs.working.Cutting.{cut_at}
use Rattle.dump_reading.specs.working.Numerals.{number_of}

-- a number of 32 bits
unfoldable pub number_said : List ℕ → Option ℕ
number_said word = number_of 0 4294967295 word

-- two numbers with a mark between them
abbrev pub both : Option ℕ → Option ℕ → Option (ℕ × ℕ)
both None second = None
both (Some a) None = None
both (Some a) (Some b) = Some (a, b)

abbrev pub pair_in : Option (List ℕ × List ℕ) → Option (ℕ × ℕ)
pair_in None = None
pair_in (Some c) = both (number_said c.0) (number_said c.1)

unfoldable pub pair_said : ℕ → List ℕ → Option (ℕ × ℕ)
pair_said mark word = pair_in (cut_at mark word)

-- three numbers with a space between them
abbrev pub with_pair : Option ℕ → Option (ℕ × ℕ) → Option (ℕ × ℕ × ℕ)
with_pair None pair = None
with_pair (Some a) None = None
with_pair (Some a) (Some p) = Some (a, p.0, p.1)

abbrev pub triple_in : Option (List ℕ × List ℕ) → Option (ℕ × ℕ × ℕ)
triple_in None = None
triple_in (Some c) = with_pair (number_said c.0) (pair_said 32 c.1)

unfoldable pub triple_said : List ℕ → Option (ℕ × ℕ × ℕ)
triple_said word = triple_in (cut_at 32 word)

-- a number up to high, or a minus sign and one from 1 to high + 1
unfoldable pub integer_said : ℕ → List ℕ → Option ℤ
integer_said high [] = None
integer_said high (first ∷ digits) =
    if first == 0x2D then option_map (λ n. neg_ℤ (pos n)) (number_of 1 (high + 1) digits)
    else option_map (λ n. pos n) (number_of 0 high (first ∷ digits))
