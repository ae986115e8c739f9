-- What a property's value is read as: the choice of its values, or its fault. Source: SPA POD,
-- "Choice"; spa/pod/pod.h, spa_choice_type; which of them is at fault is this project's.
use Rattle.std.specs.Prelude.{◌≡◌, ◌⊎◌, ℕ, ℤ, pos, ◌<ℤ◌, ◌≤ℤ◌, List, [], ◌∷◌}
use Rattle.pod_codec.specs.declared.pod.Pod.{Pod}
use Rattle.pod_codec.specs.declared.pod.Prop.{Prop}
use Rattle.pod_codec.specs.declared.pod.Control.{Control}
use Rattle.pod_codec.specs.declared.pod.Pod.TheOpen.{Pod-F}
use Rattle.pod_codec.specs.declared.pod.ChoiceKind.{ChoiceKind}
use Rattle.pod_codec.specs.declared.pod.ChoiceKind.TheVariants as k
use Rattle.format_filter.specs.declared.choice.Choice.{Choice}
use Rattle.format_filter.specs.declared.choice.Choice.TheVariants.{Only, Enum, Range, Step}
use Rattle.format_filter.specs.declared.choice.Wide.{Wide}
use Rattle.format_filter.specs.declared.fault.FormatFault.{FormatFault}
use Rattle.format_filter.specs.declared.fault.FormatFault.TheVariants as f
use Rattle.format_filter.specs.Members.{number_of, IsMember, pick_of, first_of}

-- the default is the pick where it is a member; else the min of a Range or Step, or the first
-- alternative, is
abbrev pub Prefers : Pod → Choice → Type 0
Prefers wish c = (IsMember c wish × (pick_of c ≡ wish))
    ⊎ ((IsMember c wish → ⊥) × (pick_of c ≡ first_of c))

-- a number of a type
abbrev pub IsNumber : Wide → Pod → Type 0
IsNumber wide v = (n : ℤ) × (v ≡ number_of wide n)

-- default, min and max
abbrev pub ReadsRange : Pod → Pod → Pod → Choice → Type 0
ReadsRange wish low high (Range wide pick min max) = IsNumber wide wish
    × (low ≡ number_of wide min)
    × (high ≡ number_of wide max) × (min ≤ℤ max) × Prefers wish (Range wide pick min max)
ReadsRange wish low high other = ⊥

-- default, min, max and step
abbrev pub ReadsStep : Pod → Pod → Pod → Pod → Choice → Type 0
ReadsStep wish low high by (Step wide pick min max step) = IsNumber wide wish
    × (low ≡ number_of wide min)
    × (high ≡ number_of wide max) × (by ≡ number_of wide step) × (min ≤ℤ max)
    × (pos 0 <ℤ step) × Prefers wish (Step wide pick min max step)
ReadsStep wish low high by other = ⊥

-- default and alternatives
abbrev pub ReadsEnum : Pod → List Pod → Choice → Type 0
ReadsEnum wish values (Enum pick alts) = (alts ≡ values) × Prefers wish (Enum pick alts)
ReadsEnum wish values other = ⊥

-- the alternatives after a default: without one it is its own
abbrev pub alternatives : Pod → List Pod → List Pod
alternatives wish [] = wish ∷ []
alternatives wish (v ∷ rest) = v ∷ rest

-- the values of a choice by its kind; further values are ignored
abbrev pub ReadsValues : ChoiceKind → List Pod → Choice → Type 0
ReadsValues k.None (v ∷ rest) c = c ≡ Only v
ReadsValues k.Range (wish ∷ low ∷ high ∷ rest) c = ReadsRange wish low high c
ReadsValues k.Step (wish ∷ low ∷ high ∷ by ∷ rest) c = ReadsStep wish low high by c
ReadsValues k.Enum (wish ∷ rest) c = ReadsEnum wish (alternatives wish rest) c
ReadsValues kind values c = ⊥

-- their fault: no alternative first, then Flags, then a Range or Step that is empty
abbrev pub FaultsValues : ChoiceKind → List Pod → ℕ → FormatFault → Type 0
FaultsValues kind [] key fault = fault ≡ f.EmptyChoice key
FaultsValues k.Flags (v ∷ rest) key fault = fault ≡ f.FlagsChoice key
FaultsValues k.Range (v ∷ rest) key fault = (fault ≡ f.BadRange key)
    × ((c : Choice) → ReadsValues k.Range (v ∷ rest) c → ⊥)
FaultsValues k.Step (v ∷ rest) key fault = (fault ≡ f.BadStep key)
    × ((c : Choice) → ReadsValues k.Step (v ∷ rest) c → ⊥)
FaultsValues kind (v ∷ rest) key fault = ⊥

-- READING of a value: a value that is no Choice is the only one
abbrev pub Reads : Pod-F Pod Control Prop → Pod → Choice → Type 0
Reads (Pod-F.Choice kind flags child values) v c = ReadsValues kind values c
Reads other v c = c ≡ Only v

abbrev pub Faults : Pod-F Pod Control Prop → ℕ → FormatFault → Type 0
Faults (Pod-F.Choice kind flags child values) key fault = FaultsValues kind values key fault
Faults other key fault = ⊥
