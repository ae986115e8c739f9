-- The reading of bytes as a POD: the value that a prefix of them spells and how long that prefix
-- is, or their first fault. Source: SPA POD, "Types"; spa/pod/pod.h. For all bytes there is one
-- (`proofs/PodReadings.antt`).
use Rattle.std.specs.Prelude.{ℕ, List, Result, Ok, Err}
use Rattle.pod_codec.specs.declared.pod.Pod.{Pod}
use Rattle.pod_codec.specs.declared.fault.PodFault.{PodFault}
use Rattle.pod_codec.specs.Spelling.{FrontSpells}
use Rattle.pod_codec.specs.FirstFault.{IsFirstFault}

-- a reading of the bytes
abbrev pub IsReading : List ℕ → Result (Pod × ℕ) PodFault → Type 0
IsReading bytes (Ok x) = FrontSpells bytes x.0 x.1
IsReading bytes (Err fault) = IsFirstFault bytes fault
