-- Spelling of PODs: which bytes spell which value, with free padding and any nonzero Bool. Source:
-- SPA POD, "Types"; spa/pod/pod.h. Places count from the first byte; a body goes from b to e.
use Rattle.std.specs.Prelude.{◌≡◌, ℕ, zero, suc, ◌+◌, ◌-◌, ◌≤◌, ◌<◌, ◌⊎◌, List, [], length, slice_index, slice_range}
use Rattle.pw_lists.specs.Limits.{depth_limit, pod_bytes_limit}
use Rattle.pod_codec.specs.declared.pod.Pod.{Pod}
use Rattle.pod_codec.specs.declared.pod.Prop.{Prop}
use Rattle.pod_codec.specs.declared.pod.Control.{Control}
use Rattle.pod_codec.specs.declared.pod.Pod.TheOpen.{Pod-F}
use Rattle.pod_codec.specs.declared.pod.Pod.TheViews.{out-Pod, out-Prop, out-Control}
use Rattle.pod_codec.specs.PodType.{child_size, choice_number}
use Rattle.pod_codec.specs.Framing.{pad8}
use Rattle.pod_codec.specs.Places.{u32_at, AreAfter, IsScalarAt, HasChildren}

-- a property, and a control, at q: two numbers and a POD, by what is held
abbrev pub IsPropAt : (ℕ → Pod → ℕ → Type 0) → List ℕ → ℕ → Prop → ℕ
    → Type 0
IsPropAt Held bytes q prop m = ((out-Prop prop).key ≡ u32_at bytes q)
    × ((out-Prop prop).flags ≡ u32_at bytes (q + 4))
    × Held (q + 8) (out-Prop prop).value m

abbrev pub IsControlAt : (ℕ → Pod → ℕ → Type 0) → List ℕ → ℕ → Control → ℕ
    → Type 0
IsControlAt Held bytes q control m = ((out-Control control).offset ≡ u32_at bytes q)
    × ((out-Control control).kind ≡ u32_at bytes (q + 4))
    × Held (q + 8) (out-Control control).value m

-- the body of type t from b to e, by cases on the value
abbrev pub IsBodyAt : (ℕ → Pod → ℕ → Type 0) → List ℕ → ℕ → ℕ → ℕ
    → Pod-F Pod Control Prop → Type 0
IsBodyAt Held bytes t b e Pod-F.None = (t ≡ 1) × (e ≡ b)
IsBodyAt Held bytes t b e (Pod-F.Text text) = (t ≡ 8) × (b < e)
    × (slice_index bytes (e - 1) ≡ 0)
    × (text ≡ slice_range bytes b (e - 1))
IsBodyAt Held bytes t b e (Pod-F.Bytes text) = (t ≡ 9) × (text ≡ slice_range bytes b e)
IsBodyAt Held bytes t b e (Pod-F.Bitmap text) = (t ≡ 12) × (text ≡ slice_range bytes b e)
IsBodyAt Held bytes t b e (Pod-F.Array child values) = (t ≡ 13)
    × (((e ≡ b) × (child ≡ 1) × (values ≡ [])) ⊎ HasChildren bytes b e child values)
IsBodyAt Held bytes t b e (Pod-F.Struct fields) = (t ≡ 14) × AreAfter Held b fields e
IsBodyAt Held bytes t b e (Pod-F.Object object id props) = (t ≡ 15) × (object ≡ u32_at bytes b)
    × (id ≡ u32_at bytes (b + 4)) × AreAfter (IsPropAt Held bytes) (b + 8) props e
IsBodyAt Held bytes t b e (Pod-F.Choice kind flags child values) = (t ≡ 19)
    × (choice_number kind ≡ u32_at bytes b)
    × (flags ≡ u32_at bytes (b + 4)) × HasChildren bytes (b + 8) e child values
IsBodyAt Held bytes t b e (Pod-F.Sequence unit controls) = (t ≡ 16) × (unit ≡ u32_at bytes b)
    × AreAfter (IsControlAt Held bytes) (b + 8) controls e
IsBodyAt Held bytes t b e scalar = (e ≡ b + child_size t) × IsScalarAt bytes t b scalar

-- SPELLING: with `left` levels left, the bytes from p to q, within the end e, are a POD of the
-- value
unfoldable pub SpellsAt : ℕ → List ℕ → ℕ → ℕ → Pod → ℕ → Type 0
SpellsAt zero bytes p e pod q = ⊥
SpellsAt (suc left) bytes p e pod q =
    let size = u32_at bytes p in
    (q ≤ e) × (q ≡ p + 8 + pad8 size)
    × IsBodyAt (λ a x m. SpellsAt left bytes a (p + 8 + size) x m) bytes (u32_at bytes (p + 4))
    (p + 8) (p + 8 + size)
    (out-Pod pod)

-- the first `size` of the bytes spell the value, at most 16 deep, with a body of at most 1,048,576
-- bytes
pub record FrontSpells (bytes : List ℕ) (pod : Pod) (size : ℕ) : Type 0 where
  pub front : SpellsAt depth_limit bytes 0 (length bytes) pod size
  pub limit : u32_at bytes 0 ≤ pod_bytes_limit
