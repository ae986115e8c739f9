-- The bytes of a text.
use Rattle.std.proofs.Common.{◌≡◌, ℕ, List, Ok, Err}
use Rattle.std.specs.Prelude.{Result}
use Rattle.pw_lists.specs.Limits.{depth_limit}
use Rattle.pod_codec.specs.declared.pod.Pod.{Pod}
use Rattle.pod_codec.specs.DumpText.{dump_text_of}
use Rattle.dump_reading.specs.WellFormed.{IsWellFormed}
use Rattle.pod_text.specs.declared.status.Status.{Status}
use Rattle.pod_text.specs.declared.status.Status.TheVariants as S
use Rattle.pod_text.specs.Making.{IsSpelled}
use Rattle.pod_text.specs.DumpMaking.{IsDumpPod}

-- of its value
pub dump_spelled : (text : List ℕ) (pod : Pod) (r : Result (List ℕ) Status) → dump_text_of pod ≡ text
    → ((other : Pod) → IsWellFormed depth_limit other → text ≡ dump_text_of other → pod ≡ other) → IsSpelled pod r → IsDumpPod text r
dump_spelled text pod (Ok bytes) dump only spelled = record { pod = pod; dump = dump; only = only; spelled = spelled }
dump_spelled text pod (Err S.TooLong) dump only spelled = record { pod = pod; dump = dump; only = only; spelled = spelled }
dump_spelled text pod (Err S.Memory) dump only spelled = tt
dump_spelled text pod (Err other) dump only spelled = absurd spelled
