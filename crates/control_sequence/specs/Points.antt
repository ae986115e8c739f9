-- Points of a control sequence, and its faults. Source: PipeWire's documentation, "SPA POD"
-- (Sequence, Props); spa/control/control.h, spa/param/props.h. The key and the scale of a gain, and
-- the order of faults, are this project's.
use Rattle.std.specs.Prelude.{◌≡◌, ℕ, ◌==◌, ◌&&◌, Bool, List, [], ◌∷◌, map, Option, Some, None, is_some, is_none, Result}
use Rattle.std.specs.Prelude.{Ok, Err, nat_lt, filter_map, option_map, option_and_then}
use Rattle.std.specs.Prelude.{if◌then◌else◌}
use Rattle.std.specs.List.{zip, enumerate_from}
use Rattle.pod_codec.specs.declared.pod.Pod.{Pod}
use Rattle.pod_codec.specs.declared.pod.Prop.{Prop}
use Rattle.pod_codec.specs.declared.pod.Control.{Control}
use Rattle.pod_codec.specs.declared.pod.Pod.TheOpen.{Pod-F}
use Rattle.pod_codec.specs.declared.pod.Pod.TheViews.{out-Pod, out-Control}
use Rattle.control_sequence.specs.declared.points.Point.{Point}
use Rattle.control_sequence.specs.declared.points.Points.{Points}
use Rattle.control_sequence.specs.declared.fault.ControlFault.{ControlFault}
use Rattle.control_sequence.specs.declared.fault.ControlFault.TheVariants as f
pub use Rattle.control_sequence.specs.Gains.{props_of, held_gain, gain_in, gain_of}

-- a control of kind Properties (1), and what it carries
abbrev pub has_props : Control → Bool
has_props c = (out-Control c).kind == 1

abbrev pub carried : Control → Option (List Prop)
carried c = if has_props c then props_of (out-Pod (out-Control c).value) else None

abbrev pub gain_value : Control → Option Pod
gain_value c = option_and_then held_gain (carried c)

-- POINT of a control: its offset and its gain
abbrev pub point_in : Control → Option Point
point_in c = option_map (λ g. record { offset = (out-Control c).offset; g = g })
    (option_and_then gain_of (gain_value c))

-- FAULT of a control at this place, the one before which has this offset
abbrev pub fault_in : ℕ → ℕ → Control → Option ControlFault
fault_in i before c =
    if nat_lt (out-Control c).offset before then Some (f.OffsetFalls i)
    else (if has_props c && is_none (carried c) then Some (f.NotProps i)
    else (if is_some (gain_value c) && is_none (point_in c) then Some (f.GainForm i)
    else None))

-- the faults of controls in their order; before the first the offset is 0
abbrev pub faults_of : List Control → List ControlFault
faults_of controls = filter_map (λ e. fault_in e.0 e.1.0 e.1.1)
    (enumerate_from 0 (zip (0 ∷ map (λ c. (out-Control c).offset) controls) controls))

-- POINTS of a value: the points of all its controls, or the first fault
abbrev pub points_or : List Point → List ControlFault → Result (List Point) ControlFault
points_or points [] = Ok points
points_or points (first ∷ others) = Err first

-- an answer is this, unless memory runs out
abbrev pub IsAnswer : Result (List Point) ControlFault → Result Points ControlFault → Type 0
IsAnswer meaning (Ok points) = meaning ≡ Ok points.items
IsAnswer meaning (Err f.Memory) = Unit {0}
IsAnswer meaning (Err fault) = meaning ≡ Err fault

abbrev pub AnswersPoints : List Control → Result Points ControlFault → Type 0
AnswersPoints controls result = IsAnswer
    (points_or (filter_map point_in controls) (faults_of controls)) result

abbrev pub points_in : Pod-F Pod Control Prop → Result (List Point) ControlFault
points_in (Pod-F.Sequence unit controls) = points_or (filter_map point_in controls)
    (faults_of controls)
points_in other = Err f.NotSequence

abbrev pub IsPointsOf : Pod → Result Points ControlFault → Type 0
IsPointsOf pod result = IsAnswer (points_in (out-Pod pod)) result
