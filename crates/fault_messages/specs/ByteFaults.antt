-- The first byte of a line that no script may have: its value, and the column that it is in,
-- counted in bytes from 1; or the mark that a text in UTF-8 may begin with. Source: RFC 3629 for
-- the mark; the sentences are this project's own.
use Rattle.std.specs.Prelude.{ℕ, ◌+◌, List, [], ◌∷◌, ◌++◌, codes, decimal, nat_le, slice_index_or, if◌then◌else◌}
use Rattle.std.specs.List.{prefix_len}
use Rattle.graph_script.specs.Lexical.{is_allowed}
use Rattle.fault_messages.specs.Places.{begins}

abbrev pub byte_place : List ℕ → ℕ
byte_place line = prefix_len is_allowed line

abbrev pub byte_value : List ℕ → ℕ
byte_value line = slice_index_or line (byte_place line) 0

abbrev pub mark : List ℕ
mark = 0xEF ∷ 0xBB ∷ 0xBF ∷ []

-- what kind of byte it is
abbrev pub byte_words : ℕ → List ℕ
byte_words b =
    if nat_le 128 b then codes "only ASCII may be in a script, in comments too: byte "
    else codes "a byte that no script may have: "

-- of a line that begins as a WAV file does
abbrev pub riff_part : List ℕ → List ℕ
riff_part line =
    if begins line (codes "RIFF") then codes "; the line begins with RIFF, as a WAV file does"
    else []

-- byte N in column M
unfoldable pub value_said : List ℕ → List ℕ
value_said line = byte_words (byte_value line) ++ (decimal (byte_value line)
    ++ (codes ", in column " ++ (decimal (byte_place line + 1) ++ riff_part line)))

unfoldable pub byte_said : List ℕ → List ℕ
byte_said line =
    if begins line mark then codes "the line begins with a UTF-8 mark: save the file without it"
    else value_said line
