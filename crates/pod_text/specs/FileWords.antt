-- Words of a command line that name files. Source: this project's own.
use Rattle.std.specs.Prelude.{ℕ, ◌==◌, ◌&&◌, ◌||◌, Bool, false, not, nat_le, List, [], ◌∷◌, length, codes, bytes_eq}

-- standard input or output
abbrev pub is_dash : List ℕ → Bool
is_dash word = bytes_eq word (codes "-")

-- a word that names a file: 1 to 255 bytes, the first of them no `-`; or only `-`
abbrev pub is_file_word : List ℕ → Bool
is_file_word [] = false
is_file_word (c ∷ cs) = is_dash (c ∷ cs) || (not (c == 45) && nat_le (length (c ∷ cs)) 255)
