-- What an object is read as: a format or its first fault. Source: SPA POD, "Object"; spa/pod/pod.h.
use Rattle.std.specs.Prelude.{◌≡◌, ◌≢◌, ◌⊎◌, ℕ, List, ◌∷◌, ◌++◌, Some, None}
use Rattle.std.specs.List.{All, AllPairs, Any}
use Rattle.pod_codec.specs.declared.pod.Pod.{Pod}
use Rattle.pod_codec.specs.declared.pod.Prop.{Prop}
use Rattle.pod_codec.specs.declared.pod.Control.{Control}
use Rattle.pod_codec.specs.declared.pod.Pod.TheOpen.{Pod-F}
use Rattle.pod_codec.specs.declared.pod.Pod.TheViews.{out-Pod, out-Prop}
use Rattle.format_filter.specs.declared.choice.Choice.{Choice}
use Rattle.format_filter.specs.declared.format.Field.{Field}
use Rattle.format_filter.specs.declared.format.Format.{Format}
use Rattle.format_filter.specs.declared.fault.FormatFault.{FormatFault}
use Rattle.format_filter.specs.declared.fault.FormatFault.TheVariants as f
use Rattle.format_filter.specs.CommonFormat.{AreSoundFields, field_of}
use Rattle.format_filter.specs.ChoiceReading.{Reads, Faults}

abbrev pub key_of : Prop → ℕ
key_of prop = (out-Prop prop).key

-- a property's value is read as a choice, and a property as a field
abbrev pub ReadsChoice : Prop → Choice → Type 0
ReadsChoice prop c = Reads (out-Pod (out-Prop prop).value) (out-Prop prop).value c

abbrev pub ReadsField : Prop → Field → Type 0
ReadsField prop field = (field.key ≡ key_of prop) × (field.flags ≡ (out-Prop prop).flags)
    × ReadsChoice prop field.choice

-- properties without a fault: no key twice, and each value is read
pub record AreReadable (props : List Prop) : Type 0 where
  pub distinct : AllPairs (λ p q. key_of p ≢ key_of q) props
  pub readable : All (λ prop. (c : Choice) × ReadsChoice prop c) props

-- fields of properties: at the key of each property its field, and at other keys no field
pub record AreFieldsOf (props : List Prop) (fields : List Field) : Type 0 where
  pub distinct : AllPairs (λ p q. key_of p ≢ key_of q) props
  pub sound : AreSoundFields fields
  pub each : All (λ prop. (field : Field) × (field_of fields (key_of prop) ≡ Some field)
      × ReadsField prop field) props
  pub only : (key : ℕ) → All (λ prop. key_of prop ≢ key) props
      → field_of fields key ≡ None

-- a property after others is at fault: one of them has its key, else its value is
abbrev pub IsTwice : List Prop → Prop → Type 0
IsTwice before prop = Any (λ other. key_of other ≡ key_of prop) before

abbrev pub FaultsProp : List Prop → Prop → FormatFault → Type 0
FaultsProp before prop fault = (IsTwice before prop × (fault ≡ f.KeyTwice (key_of prop)))
    ⊎ ((IsTwice before prop → ⊥)
    × Faults (out-Pod (out-Prop prop).value) (key_of prop) fault)

-- FORMAT of an object
abbrev pub ReadsObject : Pod-F Pod Control Prop → Format → Type 0
ReadsObject (Pod-F.Object object id props) format = (format.object ≡ object) × (format.id ≡ id)
    × AreFieldsOf props format.fields
ReadsObject other format = ⊥

abbrev pub IsFormatOf : Pod → Format → Type 0
IsFormatOf pod format = ReadsObject (out-Pod pod) format

-- FIRST FAULT: no Object, or that of the first property at fault
pub record FaultsProps (props : List Prop) (fault : FormatFault) : Type 0 where
  pub before : List Prop
  pub prop : Prop
  pub after : List Prop
  pub parts : props ≡ before ++ prop ∷ after
  pub readable : AreReadable before
  pub at_fault : FaultsProp before prop fault

abbrev pub FaultsObject : Pod-F Pod Control Prop → FormatFault → Type 0
FaultsObject (Pod-F.Object object id props) fault = FaultsProps props fault
FaultsObject other fault = fault ≡ f.NotObject

abbrev pub IsFirstFault : Pod → FormatFault → Type 0
IsFirstFault pod fault = FaultsObject (out-Pod pod) fault

-- READ AS this format: it is the one that the object is read as, and there is no fault
pub record IsReadAs (pod : Pod) (format : Format) : Type 0 where
  pub reads : IsFormatOf pod format
  pub only : (other : Format) → IsFormatOf pod other → other ≡ format
  pub faultless : (fault : FormatFault) → IsFirstFault pod fault → ⊥
