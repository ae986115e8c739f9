-- The bytes that are made of the text of a dump: the one spelling of the value whose dump it is,
-- or why there are none, unless memory runs out. Source: this project's own.
use Rattle.std.specs.Prelude.{◌≡◌, ℕ, List, Result, Ok, Err}
use Rattle.pw_lists.specs.Limits.{depth_limit}
use Rattle.pod_codec.specs.declared.pod.Pod.{Pod}
use Rattle.pod_codec.specs.DumpText.{dump_text_of}
use Rattle.dump_reading.specs.WellFormed.{IsWellFormed}
use Rattle.pod_text.specs.declared.source.Source.{Source}
use Rattle.pod_text.specs.declared.source.Source.TheVariants as Src
use Rattle.pod_text.specs.declared.status.Status.{Status}
use Rattle.pod_text.specs.declared.status.Status.TheVariants as S
use Rattle.pod_text.specs.Making.{IsSpelled, IsGainsPod}

-- the value whose dump this is, of those that a program can hold the only one, and its spelling
pub record IsDumpSpelled (text : List ℕ) (result : Result (List ℕ) Status)
    : Type 0 where
  pub pod : Pod
  pub dump : dump_text_of pod ≡ text
  pub only : (other : Pod) → IsWellFormed depth_limit other → text ≡ dump_text_of other
      → pod ≡ other
  pub spelled : IsSpelled pod result

-- THE BYTES of a text; where a line is at fault it is no dump
abbrev pub IsDumpPod : List ℕ → Result (List ℕ) Status → Type 0
IsDumpPod text (Ok bytes) = IsDumpSpelled text (Ok bytes)
IsDumpPod text (Err S.TooLong) = IsDumpSpelled text (Err S.TooLong)
IsDumpPod text (Err (S.Text line why)) = (pod : Pod) → IsWellFormed depth_limit pod
    → text ≡ dump_text_of pod → ⊥
IsDumpPod text (Err S.Memory) = Unit {0}
IsDumpPod text (Err status) = ⊥

-- by what is read
abbrev pub IsMadePod : Source → List ℕ → Result (List ℕ) Status → Type 0
IsMadePod Src.Gains bytes result = IsGainsPod bytes result
IsMadePod Src.Dump bytes result = IsDumpPod bytes result
