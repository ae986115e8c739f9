-- The words of a command line, and those that name files: what words ask for, or the first at
-- fault, or their number where more are wanted.
-- Source: this project's own grammar, docs/FORMATS.md.
use Rattle.std.specs.Prelude.{◌≡◌, ℕ, ◌==◌, ◌&&◌, Bool, false, not, nat_le, if◌then◌else◌, List, [], ◌∷◌, length, Result, Ok, Err}
use Rattle.command_frame.specs.declared.program.Misread.{Misread}
use Rattle.command_frame.specs.declared.program.Misread.TheVariants as M

-- the words of a command line, as bytes
abbrev pub Words : Type 0
Words = List (List ℕ)

-- a word that names a file: 1 to 255 bytes, the first of them no `-`
abbrev pub is_file_word : List ℕ → Bool
is_file_word [] = false
is_file_word (c ∷ cs) = not (c == 45) && nat_le (length (c ∷ cs)) 255

-- the word at an index names a file, and what comes next
abbrev pub then_file : {T : Type 0} → ℕ → Words → (List ℕ → Words → Result T ℕ) → Result T ℕ
then_file index [] next = Err index
then_file index (file ∷ rest) next = if is_file_word file then next file rest else Err index

-- there is no word from an index on
abbrev pub then_nothing : {T : Type 0} → ℕ → Words → T → Result T ℕ
then_nothing index [] x = Ok x
then_nothing index (more ∷ rest) x = Err index

-- the words were read as they should, or memory was short
abbrev pub IsAsked : {Q : Type 0} → Result Q ℕ → Result Q Misread → Type 0
IsAsked asked (Ok request) = asked ≡ Ok request
IsAsked asked (Err (M.Word word)) = asked ≡ Err word
IsAsked asked (Err M.Memory) = Unit {0}
