-- Values that a program can hold: each number is within its type, u32, i32, u64 or i64. Source:
-- SPA POD, "Types"; spa/pod/pod.h.
use Rattle.std.specs.Prelude.{ℕ, zero, suc, ◌<◌, ◌^◌, List, FitsSigned}
use Rattle.std.specs.List.{AllByRecursion}
use Rattle.std.specs.Int.{w32, w64}
use Rattle.pod_codec.specs.declared.pod.Pod.{Pod}
use Rattle.pod_codec.specs.declared.pod.Prop.{Prop}
use Rattle.pod_codec.specs.declared.pod.Control.{Control}
use Rattle.pod_codec.specs.declared.pod.Pod.TheOpen.{Pod-F}
use Rattle.pod_codec.specs.declared.pod.Pod.TheViews.{out-Pod, out-Prop, out-Control}

-- the numbers of a value that holds no others; any other value is free
abbrev pub ScalarFits : Pod-F Pod Control Prop → Type 0
ScalarFits (Pod-F.Id n) = n < 2 ^ 32
ScalarFits (Pod-F.Int n) = FitsSigned w32 n
ScalarFits (Pod-F.Long n) = FitsSigned w64 n
ScalarFits (Pod-F.FloatBits n) = n < 2 ^ 32
ScalarFits (Pod-F.DoubleBits n) = n < 2 ^ 64
ScalarFits (Pod-F.Rectangle width height) = (width < 2 ^ 32) × (height < 2 ^ 32)
ScalarFits (Pod-F.Fraction num denom) = (num < 2 ^ 32) × (denom < 2 ^ 32)
ScalarFits (Pod-F.Fd n) = FitsSigned w64 n
ScalarFits other = Unit {0}

abbrev pub ElementsFit : List Pod → Type 0
ElementsFit values = AllByRecursion (λ pod. ScalarFits (out-Pod pod)) values

-- a property, and a control, by what is held
abbrev pub PropFits : (Pod → Type 0) → Prop → Type 0
PropFits Held prop = ((out-Prop prop).key < 2 ^ 32) × ((out-Prop prop).flags < 2 ^ 32)
    × Held (out-Prop prop).value

abbrev pub ControlFits : (Pod → Type 0) → Control → Type 0
ControlFits Held control = ((out-Control control).offset < 2 ^ 32)
    × ((out-Control control).kind < 2 ^ 32)
    × Held (out-Control control).value

-- a value, by what is held
abbrev pub ValueFits : (Pod → Type 0) → Pod-F Pod Control Prop → Type 0
ValueFits Held (Pod-F.Array child values) = ElementsFit values
ValueFits Held (Pod-F.Struct fields) = AllByRecursion Held fields
ValueFits Held (Pod-F.Object object id props) = (object < 2 ^ 32) × (id < 2 ^ 32)
    × AllByRecursion (PropFits Held) props
ValueFits Held (Pod-F.Choice kind flags child values) = (flags < 2 ^ 32) × ElementsFit values
ValueFits Held (Pod-F.Sequence unit controls) = (unit < 2 ^ 32)
    × AllByRecursion (ControlFits Held) controls
ValueFits Held scalar = ScalarFits scalar

-- NUMBERS FIT, in the first `left` levels of a value
unfoldable pub NumbersFit : ℕ → Pod → Type 0
NumbersFit zero pod = Unit {0}
NumbersFit (suc left) pod = ValueFits (NumbersFit left) (out-Pod pod)
