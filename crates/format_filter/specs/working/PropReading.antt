-- The fields of properties in a map by their keys. Source: this project's own.
use Rattle.std.specs.Prelude.{◌≡◌, ◌≢◌, ℕ, List, Option, Some}
use Rattle.std.specs.Ordering.{nat_cmp}
use Rattle.std.specs.List.{All, AllPairs, Any}
use Rattle.std.specs.BTreeMap.{BTreeMap, get, IsOrdered}
use Rattle.pod_codec.specs.declared.pod.Prop.{Prop}
use Rattle.format_filter.specs.declared.format.Field.{Field}
use Rattle.format_filter.specs.Soundness.{IsSound}
use Rattle.format_filter.specs.FormatReading.{key_of, ReadsField}

-- the field under a key
abbrev pub field_at : BTreeMap ℕ Field → ℕ → Option Field
field_at fields key = get nat_cmp fields key

-- under the key of each property is its field, and nothing else is there
pub record AreRead (props : List Prop) (fields : BTreeMap ℕ Field) : Type 0 where
  pub ordered : IsOrdered nat_cmp fields
  pub distinct : AllPairs (λ p q. key_of p ≢ key_of q) props
  pub each : All (λ prop. (field : Field) × (field_at fields (key_of prop) ≡ Some field)
      × ReadsField prop field) props
  pub origin : (key : ℕ) (field : Field) → field_at fields key ≡ Some field
      → Any (λ prop. key_of prop ≡ key) props
  pub sound : (key : ℕ) (field : Field) → field_at fields key ≡ Some field
      → (field.key ≡ key) × IsSound field.choice
