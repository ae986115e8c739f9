-- The words and the lines of a dump, two spaces of indent a level. Source: the lines are this
-- project's own.
use Rattle.std.specs.Prelude.{ℕ, ◌+◌, ◌*◌, ◌/◌, ◌%◌, ◌==◌, ◌&&◌, not, nat_le, Bool, List, [], ◌∷◌, ◌++◌, replicate}
use Rattle.std.specs.Prelude.{slice_index, codes, decimal, if◌then◌else◌}
use Rattle.std.specs.List.{flat_map}
use Rattle.pod_codec.specs.declared.pod.ChoiceKind.{ChoiceKind}
use Rattle.pod_codec.specs.declared.pod.ChoiceKind.TheVariants as k

-- the words of a line, and the lines under it at a level
pub record Lines : Type 0 where
  pub head : List ℕ
  pub held : ℕ → List ℕ

-- at a level: the indent, the words, the end of the line, and the lines under it one level deeper
abbrev pub text_at : ℕ → Lines → List ℕ
text_at level lines = (replicate (2 * level) 32 ++ (lines.head ++ 10 ∷ []))
    ++ lines.held (level + 1)

-- two lower-case digits a byte
unfoldable pub hex_digits : ℕ → List ℕ
hex_digits b = slice_index (codes "0123456789abcdef") (b / 16)
    ∷ slice_index (codes "0123456789abcdef") (b % 16) ∷ []

abbrev pub hex : List ℕ → List ℕ
hex bytes = flat_map hex_digits bytes

-- a byte in a string: as it is from 0x20 to 0x7E but for `"` and `\`, else `\x` and two digits
abbrev pub is_plain : ℕ → Bool
is_plain b = nat_le 0x20 b && nat_le b 0x7E && not (b == 34) && not (b == 92)

unfoldable pub escaped : ℕ → List ℕ
escaped b = if is_plain b then b ∷ [] else (codes "\\x" ++ hex_digits b)

abbrev pub kind_word : ChoiceKind → List ℕ
kind_word k.None = codes "none"
kind_word k.Range = codes "range"
kind_word k.Step = codes "step"
kind_word k.Enum = codes "enum"
kind_word k.Flags = codes "flags"

abbrev pub numbered : List ℕ → ℕ → List ℕ
numbered word n = word ++ decimal n

unfoldable pub two_numbered : List ℕ → ℕ → List ℕ → ℕ → List ℕ
two_numbered word n mark m = numbered word n ++ numbered mark m

abbrev pub quoted : List ℕ → List ℕ → List ℕ
quoted word text = (word ++ text) ++ codes "\""

abbrev pub alone : List ℕ → Lines
alone head = record { head = head; held = λ level. [] }

abbrev pub over : List ℕ → List Lines → Lines
over head all = record { head = head; held = λ level. flat_map (text_at level) all }
