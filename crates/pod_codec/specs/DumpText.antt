-- The text of a value: one value a line, two spaces of indent a level, what it holds one level
-- deeper. Source: the lines are this project's own.
use Rattle.std.specs.Prelude.{ℕ, List, ◌++◌, length, codes, if◌then◌else◌}
use Rattle.std.specs.List.{flat_map}
use Rattle.std.specs.Fmt.{signed_decimal}
use Rattle.std.specs.Int.{w32, w64, to_be_bytes}
use Rattle.pod_codec.specs.declared.pod.Pod.{Pod}
use Rattle.pod_codec.specs.declared.pod.Prop.{Prop}
use Rattle.pod_codec.specs.declared.pod.Control.{Control}
use Rattle.pod_codec.specs.declared.pod.Pod.TheOpen.{Pod-F, Prop-F, Control-F}
use Rattle.pod_codec.specs.declared.pod.Pod.TheFolds.{fold-Pod, fold-Prop, fold-Control}
use Rattle.pod_codec.specs.DumpWords.{Lines, text_at, hex, escaped, kind_word, numbered, two_numbered, quoted, alone, over}

-- a value, with the lines of what it holds in their places
abbrev pub pod_lines : Pod-F Lines Lines Lines → Lines
pod_lines Pod-F.None = alone (codes "none")
pod_lines (Pod-F.Bool b) = alone (if b then codes "bool true" else codes "bool false")
pod_lines (Pod-F.Id n) = alone (numbered (codes "id ") n)
pod_lines (Pod-F.Int n) = alone (codes "int " ++ signed_decimal n)
pod_lines (Pod-F.Long n) = alone (codes "long " ++ signed_decimal n)
pod_lines (Pod-F.FloatBits n) = alone (codes "float " ++ hex (to_be_bytes w32 n))
pod_lines (Pod-F.DoubleBits n) = alone (codes "double " ++ hex (to_be_bytes w64 n))
pod_lines (Pod-F.Text text) = alone (quoted (codes "string \"") (flat_map escaped text))
pod_lines (Pod-F.Bytes bytes) = alone (quoted (codes "bytes \"") (hex bytes))
pod_lines (Pod-F.Rectangle width height) = alone
    (two_numbered (codes "rectangle ") width (codes "x") height)
pod_lines (Pod-F.Fraction num denom) = alone
    (two_numbered (codes "fraction ") num (codes "/") denom)
pod_lines (Pod-F.Bitmap bytes) = alone (quoted (codes "bitmap \"") (hex bytes))
pod_lines (Pod-F.Fd n) = alone (codes "fd " ++ signed_decimal n)
pod_lines (Pod-F.Array child values) = over
    (two_numbered (codes "array ") child (codes " ") (length values)) values
pod_lines (Pod-F.Struct fields) = over (numbered (codes "struct ") (length fields)) fields
pod_lines (Pod-F.Object object id props) =
    over (two_numbered (codes "object ") object (codes " ") id
    ++ numbered (codes " ") (length props)) props
pod_lines (Pod-F.Choice kind flags child values) =
    over ((codes "choice " ++ kind_word kind) ++
    (two_numbered (codes " ") flags (codes " ") child ++ numbered (codes " ") (length values)))
    values
pod_lines (Pod-F.Sequence unit controls) =
    over (two_numbered (codes "sequence ") unit (codes " ") (length controls)) controls

abbrev pub prop_lines : Prop-F Lines Lines Lines → Lines
prop_lines p = record {
  head = two_numbered (codes "prop ") p.key (codes " ") p.flags;
  held = λ level. text_at level p.value;
}

abbrev pub control_lines : Control-F Lines Lines Lines → Lines
control_lines c = record {
  head = two_numbered (codes "control ") c.offset (codes " ") c.kind;
  held = λ level. text_at level c.value;
}

abbrev pub lines_of : Pod → Lines
lines_of = fold-Pod Lines Lines Lines pod_lines control_lines prop_lines

abbrev pub prop_lines_of : Prop → Lines
prop_lines_of = fold-Prop Lines Lines Lines pod_lines control_lines prop_lines

abbrev pub control_lines_of : Control → Lines
control_lines_of = fold-Control Lines Lines Lines pod_lines control_lines prop_lines

-- DUMP TEXT of a value
abbrev pub dump_text_of : Pod → List ℕ
dump_text_of pod = text_at 0 (lines_of pod)
