-- The control sequence of points: of each a control of kind Properties (1) at its offset, whose
-- value is an Object of type Props with only its gain. Source: PipeWire's documentation, "SPA
-- POD"; spa/control/control.h, spa/param/props.h. The key of a gain is this project's.
use Rattle.std.specs.Prelude.{◌≡◌, List, [], ◌∷◌, ℤ}
use Rattle.std.specs.List.{AllZip}
use Rattle.pod_codec.specs.declared.pod.Pod.{Pod}
use Rattle.pod_codec.specs.declared.pod.Prop.{Prop}
use Rattle.pod_codec.specs.declared.pod.Control.{Control}
use Rattle.pod_codec.specs.declared.pod.Pod.TheOpen.{Pod-F}
use Rattle.pod_codec.specs.declared.pod.Pod.TheViews.{out-Pod, out-Prop, out-Control}
use Rattle.control_sequence.specs.Gains.{props_type, gain_key}
use Rattle.control_sequence.specs.declared.points.Point.{Point}

-- an Int of the gain
abbrev pub IsInt : ℤ → Pod-F Pod Control Prop → Type 0
IsInt g (Pod-F.Int n) = n ≡ g
IsInt g other = ⊥

-- one property: the gain
abbrev pub HasGain : ℤ → List Prop → Type 0
HasGain g [] = ⊥
HasGain g (p ∷ []) = ((out-Prop p).key ≡ gain_key) × ((out-Prop p).flags ≡ 0)
    × IsInt g (out-Pod (out-Prop p).value)
HasGain g (p ∷ q ∷ more) = ⊥

-- an object of it; 2 is the id of Props
abbrev pub IsGainObject : ℤ → Pod-F Pod Control Prop → Type 0
IsGainObject g (Pod-F.Object object id props) = (object ≡ props_type) × (id ≡ 2)
    × HasGain g props
IsGainObject g other = ⊥

abbrev pub IsControlOf : Point → Control → Type 0
IsControlOf p c = ((out-Control c).offset ≡ p.offset) × ((out-Control c).kind ≡ 1)
    × IsGainObject p.g (out-Pod (out-Control c).value)

-- a sequence of these controls
abbrev pub IsWith : List Control → Pod-F Pod Control Prop → Type 0
IsWith controls (Pod-F.Sequence unit cs) = (unit ≡ 0) × (cs ≡ controls)
IsWith controls other = ⊥

-- THE SEQUENCE of points; its unit is 0
abbrev pub HasControls : List Point → Pod-F Pod Control Prop → Type 0
HasControls points (Pod-F.Sequence unit controls) = (unit ≡ 0)
    × AllZip IsControlOf points controls
HasControls points other = ⊥

abbrev pub IsSequenceOf : List Point → Pod → Type 0
IsSequenceOf points pod = HasControls points (out-Pod pod)
