-- Sound choices: the pick is a member, so that there is one. Source: SPA POD, "Choice";
-- spa/pod/pod.h.
use Rattle.std.specs.Prelude.{ℕ, ℤ, pos, ◌<◌, ◌<ℤ◌, List, FitsSigned}
use Rattle.std.specs.Int.{w32, w64}
use Rattle.std.specs.List.{All}
use Rattle.pod_codec.specs.declared.pod.Pod.{Pod}
use Rattle.pod_codec.specs.PodType.{child_size}
use Rattle.pod_codec.specs.SoundChoices.{IsOfType}
use Rattle.format_filter.specs.declared.choice.Choice.{Choice}
use Rattle.format_filter.specs.declared.choice.Choice.TheVariants.{Only, Enum, Range, Step}
use Rattle.format_filter.specs.declared.choice.Wide.{Wide}
use Rattle.format_filter.specs.declared.choice.Wide.TheVariants.{Int, Long}
use Rattle.format_filter.specs.Members.{IsMember, pick_of}

-- a number is one of its type
abbrev pub FitsWide : Wide → ℤ → Type 0
FitsWide Int n = FitsSigned w32 n
FitsWide Long n = FitsSigned w64 n

-- all values are of one type, which a Choice may hold
abbrev pub AreOfOneType : List Pod → Type 0
AreOfOneType values = (child : ℕ) × (0 < child_size child) × All (IsOfType child) values

-- the value of an Only is no Choice (19), the alternatives of an Enum are of one type that a Choice
-- may hold, numbers fit their type, and a step is above 0
abbrev pub HasSoundParts : Choice → Type 0
HasSoundParts (Only value) = IsOfType 19 value → ⊥
HasSoundParts (Enum pick alts) = AreOfOneType alts
HasSoundParts (Range wide pick min max) = FitsWide wide pick × FitsWide wide min
    × FitsWide wide max
HasSoundParts (Step wide pick min max step) = FitsWide wide pick × FitsWide wide min
    × FitsWide wide max
    × FitsWide wide step × (pos 0 <ℤ step)

-- SOUND CHOICE
pub record IsSound (choice : Choice) : Type 0 where
  pub parts : HasSoundParts choice
  pub pick : IsMember choice (pick_of choice)
