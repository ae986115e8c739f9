-- The bytes that are made of a list: the one spelling of the control sequence of its points, or
-- why there are none, unless memory runs out. Source: this project's own.
use Rattle.std.specs.Prelude.{◌≡◌, ℕ, List, Result, Ok, Err}
use Rattle.pod_codec.specs.declared.pod.Pod.{Pod}
use Rattle.pod_codec.specs.declared.pod.Pod.TheViews.{out-Pod}
use Rattle.pod_codec.specs.PodValue.{canonical}
use Rattle.pod_codec.specs.Writable.{IsWritable}
use Rattle.control_sequence.specs.declared.points.Point.{Point}
use Rattle.control_sequence.specs.Points.{points_in}
use Rattle.format_filter.specs.declared.format.Format.{Format}
use Rattle.format_filter.specs.FormatReading as formats
use Rattle.pod_text.specs.declared.fault.ListFault.TheVariants.{Line}
use Rattle.pod_text.specs.declared.status.Status.{Status}
use Rattle.pod_text.specs.declared.status.Status.TheVariants as S
use Rattle.pod_text.specs.GainList.{gains_of}
use Rattle.pod_text.specs.GainSequence.{IsSequenceOf}

-- a value in its one spelling, or it cannot be written
abbrev pub IsSpelled : Pod → Result (List ℕ) Status → Type 0
IsSpelled pod (Ok bytes) = IsWritable pod × (bytes ≡ canonical pod)
IsSpelled pod (Err S.TooLong) = IsWritable pod → ⊥
IsSpelled pod (Err S.Memory) = Unit {0}
IsSpelled pod (Err status) = ⊥

-- the sequence of points, of which these points are read, and its spelling
pub record IsSequenceSpelled (points : List Point) (result : Result (List ℕ) Status)
    : Type 0 where
  pub pod : Pod
  pub sequence : IsSequenceOf points pod
  pub law : points_in (out-Pod pod) ≡ Ok points
  pub spelled : IsSpelled pod result

abbrev pub IsPointsPod : List Point → Result (List ℕ) Status → Type 0
IsPointsPod points (Ok bytes) = IsSequenceSpelled points (Ok bytes)
IsPointsPod points (Err S.TooLong) = IsSequenceSpelled points (Err S.TooLong)
IsPointsPod points (Err S.Memory) = Unit {0}
IsPointsPod points (Err status) = ⊥

-- THE BYTES of a list
abbrev pub IsGainsPod : List ℕ → Result (List ℕ) Status → Type 0
IsGainsPod list (Ok bytes) = (points : List Point) × (gains_of list ≡ Ok points)
    × IsPointsPod points (Ok bytes)
IsGainsPod list (Err (S.List line why)) = gains_of list ≡ Err (Line line why)
IsGainsPod list (Err S.TooLong) = (points : List Point) × (gains_of list ≡ Ok points)
    × IsPointsPod points (Err S.TooLong)
IsGainsPod list (Err S.Memory) = Unit {0}
IsGainsPod list (Err status) = ⊥

-- an object, of which just this format is read, and its spelling
pub record IsFormatSpelled (format : Format) (result : Result (List ℕ) Status) : Type 0 where
  pub pod : Pod
  pub law : formats.IsReadAs pod format
  pub spelled : IsSpelled pod result

-- THE BYTES of a format
abbrev pub IsFormatPod : Format → Result (List ℕ) Status → Type 0
IsFormatPod format (Ok bytes) = IsFormatSpelled format (Ok bytes)
IsFormatPod format (Err S.TooLong) = IsFormatSpelled format (Err S.TooLong)
IsFormatPod format (Err S.Memory) = Unit {0}
IsFormatPod format (Err status) = ⊥
