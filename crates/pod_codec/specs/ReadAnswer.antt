-- What the reader's answer to bytes must be: this value or this fault, unless memory runs out.
-- Source: this project's own.
use Rattle.std.specs.Prelude.{◌≡◌, ℕ, ◌⊎◌, List, Result, Ok, Err}
use Rattle.pod_codec.specs.declared.pod.Pod.{Pod}
use Rattle.pod_codec.specs.declared.fault.PodFault.{PodFault}
use Rattle.pod_codec.specs.declared.fault.PodFault.TheVariants.{Memory}
use Rattle.pod_codec.specs.Spelling.{FrontSpells}
use Rattle.pod_codec.specs.FirstFault.{IsFirstFault}

-- a prefix of the bytes spells a value, or has a first fault
abbrev pub HasAnswer : List ℕ → Type 0
HasAnswer bytes = ((pod : Pod) × (size : ℕ) × FrontSpells bytes pod size)
    ⊎ ((first : PodFault) × IsFirstFault bytes first)

-- the answer is this value, of this length
abbrev pub IsReadAs : Result (Pod × ℕ) PodFault → Pod → ℕ → Type 0
IsReadAs (Ok x) pod size = (x.0 ≡ pod) × (x.1 ≡ size)
IsReadAs (Err fault) pod size = fault ≡ Memory

-- the answer is this fault
abbrev pub IsRefusedAs : Result (Pod × ℕ) PodFault → PodFault → Type 0
IsRefusedAs (Ok x) first = ⊥
IsRefusedAs (Err fault) first = (fault ≡ Memory) ⊎ (fault ≡ first)
