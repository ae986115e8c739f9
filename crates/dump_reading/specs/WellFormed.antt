-- Values that a dump can be of: what a program can hold, at most n levels deep. Numbers and
-- bytes are within their types, and arrays and choices hold values of their child type. Source:
-- SPA POD, "Types".
use Rattle.std.specs.Prelude.{◌≡◌, ℕ, zero, suc, ◌<◌, ◌^◌, List, length, IsTrue}
use Rattle.std.specs.List.{AllByRecursion}
use Rattle.pod_codec.specs.declared.pod.Pod.{Pod}
use Rattle.pod_codec.specs.declared.pod.Prop.{Prop}
use Rattle.pod_codec.specs.declared.pod.Control.{Control}
use Rattle.pod_codec.specs.declared.pod.Pod.TheOpen.{Pod-F}
use Rattle.pod_codec.specs.declared.pod.Pod.TheViews.{out-Pod}
use Rattle.pod_codec.specs.Numbers.{ScalarFits, PropFits, ControlFits}
use Rattle.pod_codec.specs.PodValue.{form_of}
use Rattle.dump_reading.specs.Values.{may_hold}

abbrev pub AreBytes : List ℕ → Type 0
AreBytes bytes = AllByRecursion (λ b. b < 256) bytes

-- a value that holds no others
abbrev pub IsWellFormedLeaf : Pod-F Pod Control Prop → Type 0
IsWellFormedLeaf (Pod-F.Text text) = AreBytes text
IsWellFormedLeaf (Pod-F.Bytes bytes) = AreBytes bytes
IsWellFormedLeaf (Pod-F.Bitmap bytes) = AreBytes bytes
IsWellFormedLeaf (Pod-F.Array child values) = ⊥
IsWellFormedLeaf (Pod-F.Struct fields) = ⊥
IsWellFormedLeaf (Pod-F.Object object id props) = ⊥
IsWellFormedLeaf (Pod-F.Choice kind flags child values) = ⊥
IsWellFormedLeaf (Pod-F.Sequence unit controls) = ⊥
IsWellFormedLeaf scalar = ScalarFits scalar

-- values of a child type, in an array or a choice
abbrev pub IsElement : ℕ → Pod → Type 0
IsElement child pod = ((form_of pod).number ≡ child) × IsWellFormedLeaf (out-Pod pod)

abbrev pub AreElements : ℕ → List Pod → Type 0
AreElements child values = (child < 2 ^ 32) × (length values < 2 ^ 32)
    × IsTrue (may_hold child (length values)) × AllByRecursion (IsElement child) values

-- a value, by what is held
abbrev pub IsWellFormedBy : (Pod → Type 0) → Pod-F Pod Control Prop → Type 0
IsWellFormedBy Held (Pod-F.Array child values) = AreElements child values
IsWellFormedBy Held (Pod-F.Struct fields) = (length fields < 2 ^ 32) × AllByRecursion Held fields
IsWellFormedBy Held (Pod-F.Object object id props) = (object < 2 ^ 32) × (id < 2 ^ 32)
    × (length props < 2 ^ 32) × AllByRecursion (PropFits Held) props
IsWellFormedBy Held (Pod-F.Choice kind flags child values) = (flags < 2 ^ 32)
    × AreElements child values
IsWellFormedBy Held (Pod-F.Sequence unit controls) = (unit < 2 ^ 32) × (length controls < 2 ^ 32)
    × AllByRecursion (ControlFits Held) controls
IsWellFormedBy Held leaf = IsWellFormedLeaf leaf

-- WELL FORMED, with `left` levels left
unfoldable pub IsWellFormed : ℕ → Pod → Type 0
IsWellFormed zero pod = ⊥
IsWellFormed (suc left) pod = IsWellFormedBy (IsWellFormed left) (out-Pod pod)
