-- What is at a place of bytes: numbers, values of a stated size, and the elements of arrays
-- and choices. Source: SPA POD, "Types"; spa/pod/pod.h. Places count from the first byte.
use Rattle.std.specs.Prelude.{◌≡◌, ℕ, ◌+◌, ◌≤◌, ◌<◌, ◌==◌, not, ◌⊎◌, List, [], ◌∷◌, slice_index}
use Rattle.std.specs.Int.{w32, w64, from_le_bytes, cast_signed}
use Rattle.pod_codec.specs.declared.pod.Pod.{Pod}
use Rattle.pod_codec.specs.declared.pod.Prop.{Prop}
use Rattle.pod_codec.specs.declared.pod.Control.{Control}
use Rattle.pod_codec.specs.declared.pod.Pod.TheOpen.{Pod-F}
use Rattle.pod_codec.specs.declared.pod.Pod.TheViews.{out-Pod}
use Rattle.pod_codec.specs.PodType.{child_size}

-- the number in four bytes, and in eight, the lowest first
unfoldable pub u32_at : List ℕ → ℕ → ℕ
u32_at bytes p = from_le_bytes w32
    (slice_index bytes p ∷ slice_index bytes (p + 1) ∷ slice_index bytes
    (p + 2) ∷ slice_index bytes (p + 3) ∷ [])

unfoldable pub u64_at : List ℕ → ℕ → ℕ
u64_at bytes p = from_le_bytes w64
    (slice_index bytes p ∷ slice_index bytes (p + 1) ∷ slice_index bytes
    (p + 2) ∷ slice_index bytes (p + 3)
    ∷ slice_index bytes (p + 4) ∷ slice_index bytes (p + 5) ∷ slice_index bytes (p + 6)
    ∷ slice_index bytes (p + 7) ∷
    [])

-- things one after the other: each from where the one before ends, the first from p, the last to e
abbrev pub AreAfter : {X : Type 0} → (ℕ → X → ℕ → Type 0) → ℕ → List X → ℕ
    → Type 0
AreAfter R p [] e = p ≡ e
AreAfter R p (x ∷ xs) e = (m : ℕ) × R p x m × AreAfter R m xs e

-- the body at b of a value whose type t has a size of its own
abbrev pub IsScalarAt : List ℕ → ℕ → ℕ → Pod-F Pod Control Prop → Type 0
IsScalarAt bytes t b (Pod-F.Bool set) = (t ≡ 2) × (set ≡ not (u32_at bytes b == 0))
IsScalarAt bytes t b (Pod-F.Id n) = (t ≡ 3) × (n ≡ u32_at bytes b)
IsScalarAt bytes t b (Pod-F.Int n) = (t ≡ 4) × (n ≡ cast_signed w32 (u32_at bytes b))
IsScalarAt bytes t b (Pod-F.Long n) = (t ≡ 5) × (n ≡ cast_signed w64 (u64_at bytes b))
IsScalarAt bytes t b (Pod-F.FloatBits n) = (t ≡ 6) × (n ≡ u32_at bytes b)
IsScalarAt bytes t b (Pod-F.DoubleBits n) = (t ≡ 7) × (n ≡ u64_at bytes b)
IsScalarAt bytes t b (Pod-F.Rectangle width height) = (t ≡ 10) × (width ≡ u32_at bytes b)
    × (height ≡ u32_at bytes (b + 4))
IsScalarAt bytes t b (Pod-F.Fraction num denom) = (t ≡ 11) × (num ≡ u32_at bytes b)
    × (denom ≡ u32_at bytes (b + 4))
IsScalarAt bytes t b (Pod-F.Fd n) = (t ≡ 18) × (n ≡ cast_signed w64 (u64_at bytes b))
IsScalarAt bytes t b _ = ⊥

-- an element of a child type, from p to m
abbrev pub IsElementAt : List ℕ → ℕ → ℕ → Pod → ℕ → Type 0
IsElementAt bytes child p pod m = (m ≡ p + child_size child)
    × IsScalarAt bytes child p (out-Pod pod)

-- size and type of the children at c, both 0 or the type 1, and nothing after them
pub record HasNone (bytes : List ℕ) (c e child : ℕ) (values : List Pod) : Type 0 where
  pub none : values ≡ []
  pub type_one : child ≡ 1
  pub header : (u32_at bytes c ≡ 0) × (u32_at bytes (c + 4) ≤ 1)
  pub end : e ≡ c + 8

-- size and type of the children at c, and the elements up to e
pub record HasSome (bytes : List ℕ) (c e child : ℕ) (values : List Pod) : Type 0 where
  pub allowed : 0 < child_size child
  pub header : (u32_at bytes c ≡ child_size child) × (u32_at bytes (c + 4) ≡ child)
  pub elements : AreAfter (IsElementAt bytes child) (c + 8) values e

abbrev pub HasChildren : List ℕ → ℕ → ℕ → ℕ → List Pod → Type 0
HasChildren bytes c e child values = HasNone bytes c e child values
    ⊎ HasSome bytes c e child values
