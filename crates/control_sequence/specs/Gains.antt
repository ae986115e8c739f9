-- The gain that a control carries. Source: PipeWire's documentation, "SPA POD" (Sequence, Props);
-- spa/control/control.h, spa/param/props.h; the key and the scale of a gain are this project's.
use Rattle.std.specs.Prelude.{ℕ, ◌==◌, List, Option, Some, None}
use Rattle.std.specs.Prelude.{ℤ, unsigned_abs, nat_le, option_map}
use Rattle.std.specs.Prelude.{if◌then◌else◌}
use Rattle.std.specs.List.{find}
use Rattle.pw_lists.specs.Limits.{gain_limit}
use Rattle.pod_codec.specs.declared.pod.Pod.{Pod}
use Rattle.pod_codec.specs.declared.pod.Prop.{Prop}
use Rattle.pod_codec.specs.declared.pod.Control.{Control}
use Rattle.pod_codec.specs.declared.pod.Pod.TheOpen.{Pod-F}
use Rattle.pod_codec.specs.declared.pod.Pod.TheViews.{out-Pod, out-Prop}

-- the object type Props, and the custom key of a gain
abbrev pub props_type : ℕ
props_type = 262146

abbrev pub gain_key : ℕ
gain_key = 16777217

-- the properties of an object of type Props
abbrev pub props_of : Pod-F Pod Control Prop → Option (List Prop)
props_of (Pod-F.Object object id props) = if object == props_type then Some props else None
props_of other = None

-- the value of the first gain among properties
abbrev pub held_gain : List Prop → Option Pod
held_gain props = option_map (λ p. (out-Prop p).value)
    (find (λ p. (out-Prop p).key == gain_key) props)

-- a gain: an Int within the limit of gains
abbrev pub gain_in : Pod-F Pod Control Prop → Option ℤ
gain_in (Pod-F.Int g) = if nat_le (unsigned_abs g) gain_limit then Some g else None
gain_in other = None

abbrev pub gain_of : Pod → Option ℤ
gain_of pod = gain_in (out-Pod pod)
