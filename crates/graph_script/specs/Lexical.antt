-- Lexical form of a script: lines, and words parted by blanks. Source: the bytes are ASCII; the
-- form is this project's own.
use Rattle.std.specs.Prelude.{ℕ, ◌==◌, ◌||◌, ◌&&◌, Bool, true, List, [], ◌∷◌, length, filter, nat_lt, nat_le, slice_index}
use Rattle.std.specs.List.{slice_split}

-- a byte that may be in a script: tab, line feed, carriage return, space, and what ASCII prints
abbrev pub is_allowed : ℕ → Bool
is_allowed b = (b == 0x09) || (b == 0x0A) || (b == 0x0D) || (nat_le 0x20 b && nat_le b 0x7E)

-- a line feed, which ends a line
abbrev pub is_line_feed : ℕ → Bool
is_line_feed b = b == 0x0A

-- a tab, carriage return or space, which part words
abbrev pub is_blank : ℕ → Bool
is_blank b = (b == 0x09) || (b == 0x0D) || (b == 0x20)

-- the lines, each ended by a line feed or by the end; what is after a last line feed is an
-- empty line
abbrev pub lines_of : List ℕ → List (List ℕ)
lines_of bytes = slice_split is_line_feed bytes

-- the words of a line: its longest runs of bytes that are no blanks
abbrev pub words_of : List ℕ → List (List ℕ)
words_of line = filter (λ word. nat_lt 0 (length word)) (slice_split is_blank line)

-- whether words say nothing: there is no word, or the first begins with a number sign
abbrev pub say_nothing : List (List ℕ) → Bool
say_nothing [] = true
say_nothing (word ∷ words) = slice_index word 0 == 0x23
