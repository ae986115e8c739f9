-- The intersection of two choices: a choice of just the common members, its form and its pick.
-- Source: SPA POD, "Choice"; spa/pod/filter.h, spa_pod_filter_prop; which form and which pick is
-- this project's.
use Rattle.std.specs.Prelude.{◌≡◌, Option, Some}
use Rattle.std.specs.Prelude.{None}
use Rattle.pod_codec.specs.declared.pod.Pod.{Pod}
use Rattle.format_filter.specs.declared.choice.Choice.{Choice}
use Rattle.format_filter.specs.Members.{IsMember, pick_of, first_of}
use Rattle.format_filter.specs.Soundness.{IsSound}
pub use Rattle.format_filter.specs.IntersectionForm.{IsBefore, AreThoseOf, IsOfValues, IsOfThose, IsOverlap, IsProgression, HasForm}

abbrev pub IsCommon : Choice → Choice → Pod → Type 0
IsCommon a b x = IsMember a x × IsMember b x

-- a's pick where it is common, else b's pick where it is common, else the first
pub record IsPicked (a b : Choice) (first pick : Pod) : Type 0 where
  pub own : IsCommon a b (pick_of a) → pick ≡ pick_of a
  pub other : (IsCommon a b (pick_of a) → ⊥) → IsCommon a b (pick_of b) → pick ≡ pick_of b
  pub none : (IsCommon a b (pick_of a) → ⊥) → (IsCommon a b (pick_of b) → ⊥)
      → pick ≡ first

-- c is the sound choice of exactly the common members of a and b, in the prescribed form and with
-- the prescribed pick
pub record IsCommonIn (Form : Choice → Type 0) (a b c : Choice) : Type 0 where
  pub sound : IsSound c
  pub only : (x : Pod) → IsMember c x → IsCommon a b x
  pub all : (x : Pod) → IsCommon a b x → IsMember c x
  pub form : Form c
  pub pick : IsPicked a b (first_of c) (pick_of c)

-- INTERSECTION c of a and b
abbrev pub IsIntersection : Choice → Choice → Choice → Type 0
IsIntersection a b c = IsCommonIn (HasForm a b) a b c

-- no choice where there is no common member, else the intersection
abbrev pub Meets : Choice → Choice → Option Choice → Type 0
Meets a b None = (x : Pod) → IsCommon a b x → ⊥
Meets a b (Some c) = IsIntersection a b c
