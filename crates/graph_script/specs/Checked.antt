-- Checked values: a value, or the cause of its line's fault, found step by step. Source: the causes
-- are this project's own.
use Rattle.std.specs.Prelude.{ℕ, List, [], ◌∷◌, length, ok_or, Result, Ok, Err, nat_le, ℤ}
use Rattle.std.specs.Prelude.{if◌then◌else◌}
use Rattle.graph_script.specs.declared.fault.ScriptWhy.{ScriptWhy}
use Rattle.graph_script.specs.declared.fault.ScriptWhy.TheVariants as W
use Rattle.graph_script.specs.Limits.{file_bytes_limit}
use Rattle.graph_script.specs.Arguments.{number_of, integer_of, channel_list}

abbrev pub Checked : Type 0 → Type 0
Checked A = Result A ScriptWhy

-- one step, and then what follows from it; the first cause stays
infixl 10 ◌>>=◌
abbrev pub ◌>>=◌ : {A B : Type 0} → Result A ScriptWhy → (A → Result B ScriptWhy)
    → Result B ScriptWhy
(Ok x) >>= f = f x
(Err why) >>= f = Err why

-- the value of a step, changed
abbrev pub checked_map : {A B : Type 0} → (A → B) → Result A ScriptWhy → Result B ScriptWhy
checked_map f (Ok x) = Ok (f x)
checked_map f (Err why) = Err why

-- no argument, exactly one, and up to five: the first, and then one fewer
abbrev pub no_args : List (List ℕ) → Checked (Unit {0})
no_args [] = Ok tt
no_args (a ∷ more) = Err W.Arguments

abbrev pub one_arg : List (List ℕ) → Checked (List ℕ)
one_arg [] = Err W.Arguments
one_arg (a ∷ []) = Ok a
one_arg (a ∷ b ∷ more) = Err W.Arguments

abbrev pub two_args : List (List ℕ) → Checked (List ℕ × List ℕ)
two_args [] = Err W.Arguments
two_args (a ∷ more) = checked_map (λ b. (a, b)) (one_arg more)

abbrev pub three_args : List (List ℕ) → Checked (List ℕ × List ℕ × List ℕ)
three_args [] = Err W.Arguments
three_args (a ∷ more) = checked_map (λ rest. (a, rest.0, rest.1)) (two_args more)

abbrev pub four_args : List (List ℕ) → Checked (List ℕ × List ℕ × List ℕ × List ℕ)
four_args [] = Err W.Arguments
four_args (a ∷ more) = checked_map (λ rest. (a, rest.0, rest.1, rest.2)) (three_args more)

abbrev pub five_args : List (List ℕ)
    → Checked (List ℕ × List ℕ × List ℕ × List ℕ × List ℕ)
five_args [] = Err W.Arguments
five_args (a ∷ more) = checked_map (λ rest. (a, rest.0, rest.1, rest.2, rest.3)) (four_args more)

-- a number from low to high, one that may have a sign, and a list of channels: its form or its
-- range may be wrong
abbrev pub number_arg : ℕ → ℕ → List ℕ → Checked ℕ
number_arg low high word = ok_or (number_of low high word) W.Number

abbrev pub integer_arg : ℕ → List ℕ → Checked ℤ
integer_arg high word = ok_or (integer_of high word) W.Number

abbrev pub list_arg : ℕ → List ℕ → Checked (List ℕ)
list_arg channels word = ok_or (channel_list channels word) W.Number

-- a file, which may be too long
abbrev pub file_arg : List ℕ → Checked (List ℕ)
file_arg word = if nat_le (length word) file_bytes_limit then Ok word else Err W.NameForm
