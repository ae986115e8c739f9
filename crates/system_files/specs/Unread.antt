-- What a program says of words that it could not read, and the number that it ends with.
-- Source: this project's own.
use Rattle.std.specs.Prelude.{ℕ, List, ◌++◌, codes, decimal}
use Rattle.system_files.specs.declared.unread.Unread.{Unread}
use Rattle.system_files.specs.declared.unread.Unread.TheVariants as U

-- those of words that are not in the grammar, and of too little memory
abbrev pub unread_number : Unread → ℕ
unread_number (U.NoText word) = 1
unread_number U.Memory = 9

-- the sentence, after the name of the program
abbrev pub unread_text : Unread → List ℕ
unread_text (U.NoText word) = codes ": word " ++ (decimal word ++ codes " is not text in UTF-8\n")
unread_text U.Memory = codes ": no memory was left\n"

abbrev pub unread_message : List ℕ → Unread → List ℕ
unread_message program unread = program ++ unread_text unread
