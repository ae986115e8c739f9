-- A file that holds one POD: its value, or why it is refused at a place. A file may not go on
-- after its POD.
-- Source: PipeWire's documentation, "SPA POD"; the refusals are this project's own.
use Rattle.std.specs.Prelude.{◌≡◌, ◌⊎◌, ℕ, ◌<◌, List, length, Result, Ok, Err}
use Rattle.pod_codec.specs.declared.pod.Pod.{Pod}
use Rattle.pod_codec.specs.declared.fault.PodFault.{PodFault}
use Rattle.pod_codec.specs.declared.fault.PodFault.TheVariants as F
use Rattle.pod_codec.specs.Spelling.{FrontSpells}
use Rattle.pod_codec.specs.FirstFault.{IsFirstFault}
use Rattle.run_results.specs.declared.status.Status.{Status}
use Rattle.run_results.specs.declared.status.Status.TheVariants as S
use Rattle.run_results.specs.declared.status.PodWhy.TheVariants as P

-- the bytes of a file with one POD, at most
abbrev pub pod_file_limit : ℕ
pod_file_limit = 1048584

-- the refusal of bytes that are no POD
abbrev pub pod_refusal : ℕ → PodFault → Status
pod_refusal place (F.Short offset) = S.Pod place (P.Short offset)
pod_refusal place (F.TypeUnknown offset number) = S.Pod place (P.TypeUnknown offset number)
pod_refusal place (F.Size offset) = S.Pod place (P.Size offset)
pod_refusal place (F.Uneven offset) = S.Pod place (P.Uneven offset)
pod_refusal place (F.Deep offset) = S.Pod place (P.Deep offset)
pod_refusal place (F.Large size) = S.Pod place (P.Large size)
pod_refusal place (F.Nul offset) = S.Pod place (P.Nul offset)
pod_refusal place F.Memory = S.Memory

-- the bytes spell no POD, and this is their first fault
abbrev pub IsNoPod : ℕ → List ℕ → Status → Type 0
IsNoPod place bytes status = (fault : PodFault) × IsFirstFault bytes fault
    × (status ≡ pod_refusal place fault)

-- their front spells a POD, and bytes follow it
abbrev pub HasRest : ℕ → List ℕ → Status → Type 0
HasRest place bytes status = (pod : Pod) × (size : ℕ) × FrontSpells bytes pod size
    × (size < length bytes)
    × (status ≡ S.Pod place (P.Rest size))

-- THE VALUE of a file that is one POD: all its bytes spell it; else why it is refused
abbrev pub HoldsPod : ℕ → List ℕ → Result Pod Status → Type 0
HoldsPod place bytes (Ok pod) = FrontSpells bytes pod (length bytes)
HoldsPod place bytes (Err status) = IsNoPod place bytes status ⊎ HasRest place bytes status

-- what a file's one value is read as, where it has one
abbrev pub IsReadFrom : {T : Type 0} → (Pod → Result T Status → Type 0) → Result Pod Status
    → Result T Status → Type 0
IsReadFrom As (Ok pod) outcome = As pod outcome
IsReadFrom As (Err status) outcome = outcome ≡ Err status

-- WHAT A FILE HOLDS, by what its one value is read as
abbrev pub HoldsAs : {T : Type 0} → (Pod → Result T Status → Type 0) → ℕ → List ℕ
    → Result T Status → Type 0
HoldsAs As place bytes outcome = (read : Result Pod Status) × HoldsPod place bytes read
    × IsReadFrom As read outcome
