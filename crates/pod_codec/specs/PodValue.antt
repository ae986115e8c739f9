-- The written form of a value: its type, the body that it is written with, how deep it is, and
-- whether it can be written at all. Source: SPA POD, "Types"; spa/pod/pod.h. Numbers are
-- little-endian.
use Rattle.std.specs.Prelude.{ℕ, List, [], ◌∷◌, ◌++◌, if◌then◌else◌}
use Rattle.std.specs.Int.{w32, w64, cast_unsigned}
use Rattle.pod_codec.specs.declared.pod.Pod.{Pod}
use Rattle.pod_codec.specs.declared.pod.Prop.{Prop}
use Rattle.pod_codec.specs.declared.pod.Control.{Control}
use Rattle.pod_codec.specs.declared.pod.Pod.TheOpen.{Pod-F, Prop-F, Control-F}
use Rattle.pod_codec.specs.declared.pod.Pod.TheFolds.{fold-Pod, fold-Prop, fold-Control}
use Rattle.pod_codec.specs.PodType.{choice_number}
use Rattle.pod_codec.specs.Framing.{Form, Keyed, u32_bytes, u64_bytes, framed}
use Rattle.pod_codec.specs.Framing.{leaf}
pub use Rattle.pod_codec.specs.ContainerForms.{array_form, struct_form, object_form, choice_form, sequence_form}

-- a value, with the forms of what it holds in their places
abbrev pub pod_form : Pod-F Form Keyed Keyed → Form
pod_form Pod-F.None = leaf 1 []
pod_form (Pod-F.Bool b) = leaf 2 (u32_bytes (if b then 1 else 0))
pod_form (Pod-F.Id n) = leaf 3 (u32_bytes n)
pod_form (Pod-F.Int n) = leaf 4 (u32_bytes (cast_unsigned w32 n))
pod_form (Pod-F.Long n) = leaf 5 (u64_bytes (cast_unsigned w64 n))
pod_form (Pod-F.FloatBits n) = leaf 6 (u32_bytes n)
pod_form (Pod-F.DoubleBits n) = leaf 7 (u64_bytes n)
pod_form (Pod-F.Text text) = leaf 8 (text ++ 0 ∷ [])
pod_form (Pod-F.Bytes bytes) = leaf 9 bytes
pod_form (Pod-F.Rectangle width height) = leaf 10 (u32_bytes width ++ u32_bytes height)
pod_form (Pod-F.Fraction num denom) = leaf 11 (u32_bytes num ++ u32_bytes denom)
pod_form (Pod-F.Bitmap bytes) = leaf 12 bytes
pod_form (Pod-F.Fd n) = leaf 18 (u64_bytes (cast_unsigned w64 n))
pod_form (Pod-F.Array child values) = array_form child values
pod_form (Pod-F.Struct fields) = struct_form fields
pod_form (Pod-F.Object object id props) = object_form object id props
pod_form (Pod-F.Choice kind flags child values) = choice_form
    (choice_number kind) flags child values
pod_form (Pod-F.Sequence unit controls) = sequence_form unit controls

abbrev pub prop_form : Prop-F Form Keyed Keyed → Keyed
prop_form p = record { first = p.key; second = p.flags; value = p.value }

abbrev pub control_form : Control-F Form Keyed Keyed → Keyed
control_form c = record { first = c.offset; second = c.kind; value = c.value }

-- WRITTEN FORM of a value, of a property and of a control
abbrev pub form_of : Pod → Form
form_of = fold-Pod Form Keyed Keyed pod_form control_form prop_form

abbrev pub keyed_of : Prop → Keyed
keyed_of = fold-Prop Form Keyed Keyed pod_form control_form prop_form

abbrev pub control_keyed : Control → Keyed
control_keyed = fold-Control Form Keyed Keyed pod_form control_form prop_form

-- CANONICAL SPELLING: the one spelling that is written
abbrev pub canonical : Pod → List ℕ
canonical pod = framed (form_of pod)
