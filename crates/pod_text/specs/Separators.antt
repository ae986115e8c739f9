-- The bytes that part numbers in a word. Source: this project's own.
use Rattle.std.specs.Prelude.{ℕ, ◌==◌, Bool}

-- the bytes that part numbers
abbrev pub is_bar : ℕ → Bool
is_bar b = b == 0x7C

abbrev pub is_dot : ℕ → Bool
is_dot b = b == 0x2E

abbrev pub is_slash : ℕ → Bool
is_slash b = b == 0x2F
