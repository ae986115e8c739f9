-- The members of a choice, the values that it admits, and its pick. Source: SPA POD, "Choice";
-- spa/pod/pod.h. Values of different types are different, and floats are compared by their bits.
use Rattle.std.specs.Prelude.{◌≡◌, ℕ, ℤ, pos, ◌+ℤ◌, ◌*ℤ◌, ◌≤ℤ◌, [], ◌∷◌}
use Rattle.std.specs.List.{Contains}
use Rattle.pod_codec.specs.declared.pod.Pod.{Pod}
use Rattle.pod_codec.specs.declared.pod.Pod.TheVariants as pod
use Rattle.format_filter.specs.declared.choice.Choice.{Choice}
use Rattle.format_filter.specs.declared.choice.Choice.TheVariants.{Only, Enum, Range, Step}
use Rattle.format_filter.specs.declared.choice.Wide.{Wide}
use Rattle.format_filter.specs.declared.choice.Wide.TheVariants.{Int, Long}

-- a number as a value of its type
abbrev pub number_of : Wide → ℤ → Pod
number_of Int n = pod.Int n
number_of Long n = pod.Long n

-- n is min + k * step, for some k from 0
abbrev pub IsReached : ℤ → ℤ → ℤ → Type 0
IsReached min step n = (k : ℕ) × (n ≡ min +ℤ (pos k *ℤ step))

-- MEMBERS: the value of an Only, the alternatives of an Enum, the numbers from min to max of a
-- Range, and of a Step those that are min + k * step, up to max
abbrev pub IsMember : Choice → Pod → Type 0
IsMember (Only value) x = x ≡ value
IsMember (Enum pick alts) x = Contains alts x
IsMember (Range wide pick min max) x = (n : ℤ) × (x ≡ number_of wide n) × (min ≤ℤ n)
    × (n ≤ℤ max)
IsMember (Step wide pick min max step) x = (n : ℤ) × (x ≡ number_of wide n)
    × IsReached min step n × (n ≤ℤ max)

-- the value that a choice prefers
abbrev pub pick_of : Choice → Pod
pick_of (Only value) = value
pick_of (Enum pick alts) = pick
pick_of (Range wide pick min max) = number_of wide pick
pick_of (Step wide pick min max step) = number_of wide pick

-- the first alternative of an Enum, else the least member
abbrev pub first_of : Choice → Pod
first_of (Only value) = value
first_of (Enum pick []) = pick
first_of (Enum pick (first ∷ rest)) = first
first_of (Range wide pick min max) = number_of wide min
first_of (Step wide pick min max step) = number_of wide min

-- both are Ranges
abbrev pub AreRanges : Choice → Choice → Type 0
AreRanges (Range wide p min max) (Range w q low high) = Unit {0}
AreRanges a b = ⊥
