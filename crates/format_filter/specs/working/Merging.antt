-- How two rows of fields are merged: what is at a place, by its key. Source: this project's
-- own.
use Rattle.std.specs.Prelude.{◌≡◌, ◌⊎◌, ℕ, ◌+◌, ◌<◌, ◌≤◌, List, Option, Some, None, length, drop, slice_range, slice_index_or}
use Rattle.std.specs.List.{All}
use Rattle.format_filter.specs.declared.format.Field.{Field}
use Rattle.format_filter.specs.declared.merging.Merged.{Merged}
use Rattle.format_filter.specs.declared.merging.Merged.TheVariants.{Fields, Clash}
use Rattle.format_filter.specs.CommonFormat.{AreSoundFields, field_of, AreClashing, Clashes, IsCommonField}
use Rattle.format_filter.specs.Soundness.{IsSound}

-- at a place is a field of a key
abbrev pub IsKeyAt : List Field → ℕ → ℕ → Type 0
IsKeyAt fields at key = (at < length fields)
    × ((d : Field) → (slice_index_or fields at d).key ≡ key)

-- the place after what is at a place under a key, which is one field or none
pub record IsBehind (fields : List Field) (at key next : ℕ) : Type 0 where
  pub within : next ≤ length fields
  pub near : (next ≡ at) ⊎ (next ≡ at + 1)
  pub passed : All (λ f. f.key ≡ key) (slice_range fields at next)
  pub left : All (λ f. key < f.key) (drop next fields)

-- what two fields, of which one may lack, have in common: nothing where they clash
abbrev pub Joins : Option Field → Option Field → Option Field → Type 0
Joins f g None = AreClashing f g
Joins f g (Some h) = (AreClashing f g → ⊥) × IsCommonField f g (Some h) × IsSound h.choice

-- the common fields of two rows, or the least key at which they clash
pub record AreCommonFields (a b c : List Field) : Type 0 where
  pub sound : AreSoundFields c
  pub fields : (key : ℕ) → IsCommonField (field_of a key) (field_of b key) (field_of c key)
  pub clashless : (key : ℕ) → Clashes a b key → ⊥

abbrev pub Merges : List Field → List Field → Merged → Type 0
Merges a b (Fields c) = AreCommonFields a b c
Merges a b (Clash key) = Clashes a b key × ((k : ℕ) → k < key → Clashes a b k → ⊥)
