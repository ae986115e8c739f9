-- What a format is written as: an object whose properties are its fields. Source: SPA POD,
-- "Object" and "Choice"; spa/pod/pod.h.
use Rattle.std.specs.Prelude.{◌≡◌, ℕ, List, [], ◌∷◌}
use Rattle.std.specs.List.{AllZip}
use Rattle.pod_codec.specs.declared.pod.Pod.{Pod}
use Rattle.pod_codec.specs.declared.pod.Prop.{Prop}
use Rattle.pod_codec.specs.declared.pod.Control.{Control}
use Rattle.pod_codec.specs.declared.pod.Pod.TheOpen.{Pod-F}
use Rattle.pod_codec.specs.declared.pod.Pod.TheViews.{out-Pod, out-Prop}
use Rattle.pod_codec.specs.declared.pod.ChoiceKind.{ChoiceKind}
use Rattle.pod_codec.specs.declared.pod.ChoiceKind.TheVariants as k
use Rattle.pod_codec.specs.SoundChoices.{IsOfType}
use Rattle.format_filter.specs.declared.choice.Choice.{Choice}
use Rattle.format_filter.specs.declared.choice.Choice.TheVariants.{Only, Enum, Range, Step}
use Rattle.format_filter.specs.declared.choice.Wide.{Wide}
use Rattle.format_filter.specs.declared.choice.Wide.TheVariants.{Int, Long}
use Rattle.format_filter.specs.declared.format.Field.{Field}
use Rattle.format_filter.specs.declared.format.Format.{Format}
use Rattle.format_filter.specs.Members.{number_of}

-- the numbers of the types Int and Long
abbrev pub type_of_wide : Wide → ℕ
type_of_wide Int = 4
type_of_wide Long = 5

-- a Choice without flags
abbrev pub IsChoice : ChoiceKind → ℕ → List Pod → Pod-F Pod Control Prop → Type 0
IsChoice kind child values (Pod-F.Choice k flags c vs) = (k ≡ kind) × (flags ≡ 0)
    × (c ≡ child) × (vs ≡ values)
IsChoice kind child values other = ⊥

-- an Only is its value; of the others the pick is first
abbrev pub Writes : Choice → Pod → Type 0
Writes (Only value) v = v ≡ value
Writes (Enum pick alts) v = (child : ℕ) × IsOfType child pick
    × IsChoice k.Enum child (pick ∷ alts) (out-Pod v)
Writes (Range wide pick min max) v = IsChoice k.Range (type_of_wide wide)
    (number_of wide pick ∷ number_of wide min ∷ number_of wide max ∷ []) (out-Pod v)
Writes (Step wide pick min max step) v = IsChoice k.Step (type_of_wide wide)
    (number_of wide pick ∷ number_of wide min ∷ number_of wide max ∷ number_of wide step
    ∷ []) (out-Pod v)

abbrev pub WritesField : Field → Prop → Type 0
WritesField field prop = ((out-Prop prop).key ≡ field.key)
    × ((out-Prop prop).flags ≡ field.flags)
    × Writes field.choice (out-Prop prop).value

-- an object of the type and id, with a property for each field, in their order
abbrev pub WritesObject : Format → Pod-F Pod Control Prop → Type 0
WritesObject format (Pod-F.Object object id props) = (object ≡ format.object)
    × (id ≡ format.id)
    × AllZip WritesField format.fields props
WritesObject format other = ⊥

-- WRITING of a format
abbrev pub IsWritten : Format → Pod → Type 0
IsWritten format pod = WritesObject format (out-Pod pod)
