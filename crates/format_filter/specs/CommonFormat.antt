-- The common format of two formats, and the keys at which they clash. Source: SPA POD, "Object";
-- spa/pod/filter.h, spa_pod_filter; what a key that one side lacks does is this project's.
use Rattle.std.specs.Prelude.{◌≡◌, ◌≢◌, ℕ, ◌<◌, ◌==◌, List, Option, Some, None, bit_and}
use Rattle.std.specs.List.{All, AllPairs, find}
use Rattle.pod_codec.specs.declared.pod.Pod.{Pod}
use Rattle.format_filter.specs.declared.format.Field.{Field}
use Rattle.format_filter.specs.declared.format.Format.{Format}
use Rattle.format_filter.specs.declared.common.Filtered.{Filtered}
use Rattle.format_filter.specs.declared.common.Filtered.TheVariants.{Common, Clash, Types}
use Rattle.format_filter.specs.Soundness.{IsSound}
use Rattle.format_filter.specs.Intersection.{IsCommon, IsIntersection}

-- fields ascend by their keys, no key twice, and their choices are sound
pub record AreSoundFields (fields : List Field) : Type 0 where
  pub ascending : AllPairs (λ f g. f.key < g.key) fields
  pub choices : All (λ f. IsSound f.choice) fields

-- SOUND FORMAT
abbrev pub IsSoundFormat : Format → Type 0
IsSoundFormat format = AreSoundFields format.fields

-- the field of a key, if there is one
abbrev pub field_of : List Field → ℕ → Option Field
field_of fields key = find (λ f. f.key == key) fields

-- the flag MANDATORY, 8
abbrev pub IsMandatory : ℕ → Type 0
IsMandatory flags = bit_and flags 8 ≡ 8

-- what two formats have at a key clashes: two choices without a common member, or a mandatory one
-- on one side
abbrev pub AreClashing : Option Field → Option Field → Type 0
AreClashing (Some f) (Some g) = (x : Pod) → IsCommon f.choice g.choice x → ⊥
AreClashing (Some f) None = IsMandatory f.flags
AreClashing None (Some g) = IsMandatory g.flags
AreClashing None None = ⊥

-- CLASHING KEY
abbrev pub Clashes : List Field → List Field → ℕ → Type 0
Clashes a b key = AreClashing (field_of a key) (field_of b key)

-- two formats have a common format
pub record HasCommonFormat (a b : Format) : Type 0 where
  pub types : a.object ≡ b.object
  pub clashless : (key : ℕ) → Clashes a.fields b.fields key → ⊥

-- what the common format has at a key: what only one has, or the intersection and the flags that
-- both have
abbrev pub IsCommonField : Option Field → Option Field → Option Field → Type 0
IsCommonField (Some f) (Some g) (Some h) = (h.key ≡ f.key)
    × (h.flags ≡ bit_and f.flags g.flags)
    × IsIntersection f.choice g.choice h.choice
IsCommonField (Some f) (Some g) None = ⊥
IsCommonField (Some f) None h = h ≡ Some f
IsCommonField None g h = h ≡ g

-- COMMON FORMAT c of a and b
pub record IsCommonFormat (a b c : Format) : Type 0 where
  pub sound : IsSoundFormat c
  pub object : c.object ≡ a.object
  pub id : c.id ≡ a.id
  pub fields : (key : ℕ) → IsCommonField (field_of a.fields key) (field_of b.fields key)
      (field_of c.fields key)

-- other object types, else the least clashing key, else the common format
abbrev pub Filters : Format → Format → Filtered → Type 0
Filters a b Types = a.object ≢ b.object
Filters a b (Clash key) = (a.object ≡ b.object) × Clashes a.fields b.fields key
    × ((k : ℕ) → k < key → Clashes a.fields b.fields k → ⊥)
Filters a b (Common c) = HasCommonFormat a b × IsCommonFormat a b c
