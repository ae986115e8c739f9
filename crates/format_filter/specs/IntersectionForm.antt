-- The form of an intersection of two choices: which kind of choice it is, and in which order.
-- Source: SPA POD, "Choice"; spa/pod/filter.h, spa_pod_filter_prop; the forms are this project's.
use Rattle.std.specs.Prelude.{◌≡◌, ℕ, ℤ, pos, ◌+ℤ◌, ◌*ℤ◌, ◌<ℤ◌, ◌≤◌, List, [], ◌∷◌, ◌++◌, length}
use Rattle.std.specs.List.{Contains, AllPairs}
use Rattle.std.specs.Int.{int_max, int_min}
use Rattle.pod_codec.specs.declared.pod.Pod.{Pod}
use Rattle.format_filter.specs.declared.choice.Choice.{Choice}
use Rattle.format_filter.specs.declared.choice.Choice.TheVariants.{Only, Enum, Range, Step}
use Rattle.format_filter.specs.declared.choice.Wide.{Wide}
use Rattle.format_filter.specs.Members.{number_of, IsMember}

-- p is in a list before q: some prefix of it has p and not q
abbrev pub IsBefore : List Pod → Pod → Pod → Type 0
IsBefore xs p q = (front back : List Pod) × (xs ≡ front ++ back) × Contains front p
    × (Contains front q → ⊥)

-- just those of a list for which P holds, in the order in which they are first in it, so no value
-- twice
pub record AreThoseOf (xs : List Pod) (P : Pod → Type 0) (those : List Pod) : Type 0 where
  pub only : (x : Pod) → Contains those x → Contains xs x × P x
  pub all : (x : Pod) → Contains xs x → P x → Contains those x
  pub order : AllPairs (IsBefore xs) those

-- one value is an Only, more are an Enum of them in their order
abbrev pub IsOfValues : List Pod → Choice → Type 0
IsOfValues those (Only value) = those ≡ value ∷ []
IsOfValues those (Enum pick alts) = (2 ≤ length those) × (alts ≡ those)
IsOfValues those other = ⊥

abbrev pub IsOfThose : List Pod → (Pod → Type 0) → Choice → Type 0
IsOfThose xs P c = (those : List Pod) × AreThoseOf xs P those × IsOfValues those c

-- a Range from the larger min to the smaller max, an Only where these are equal
abbrev pub IsOverlap : ℤ → ℤ → Wide → Choice → Type 0
IsOverlap low high wide (Only value) = (low ≡ high) × (value ≡ number_of wide low)
IsOverlap low high wide (Range w pick min max) = (low <ℤ high) × (w ≡ wide) × (min ≡ low)
    × (max ≡ high)
IsOverlap low high wide other = ⊥

-- one number is an Only, two are an Enum, ascending, and more are a Step from the least to the
-- greatest
abbrev pub IsProgression : Choice → Type 0
IsProgression (Only value) = Unit {0}
IsProgression (Enum pick alts) = (wide : Wide) × (n : ℤ) × (m : ℤ) × (n <ℤ m)
    × (alts ≡ number_of wide n ∷ number_of wide m ∷ [])
IsProgression (Range wide pick min max) = ⊥
IsProgression (Step wide pick min max step) = (k : ℕ) × (2 ≤ k)
    × (max ≡ min +ℤ (pos k *ℤ step))

-- FORM of the intersection c of a and b: the values of an Only or Enum, a's before b's, else
-- numbers
abbrev pub HasForm : Choice → Choice → Choice → Type 0
HasForm (Only value) b c = IsOfThose (value ∷ []) (IsMember b) c
HasForm (Enum pick alts) b c = IsOfThose alts (IsMember b) c
HasForm a (Only value) c = IsOfThose (value ∷ []) (IsMember a) c
HasForm a (Enum pick alts) c = IsOfThose alts (IsMember a) c
HasForm (Range wide p min max) (Range w q low high) c = IsOverlap (int_max min low)
    (int_min max high) wide c
HasForm a b c = IsProgression c
