-- What two choices are to the parts that make their intersection: values in a list and another
-- choice, or rows of numbers. Source: this project's own.
use Rattle.std.specs.Prelude.{◌≡◌, ℤ, pos, ◌<ℤ◌, List}
use Rattle.std.specs.List.{Contains}
use Rattle.pod_codec.specs.declared.pod.Pod.{Pod}
use Rattle.format_filter.specs.declared.choice.Choice.{Choice}
use Rattle.format_filter.specs.declared.choice.Choice.TheVariants.{Range, Step}
use Rattle.format_filter.specs.declared.choice.Wide.{Wide}
use Rattle.format_filter.specs.declared.numbers.Ranged.{Ranged}
use Rattle.format_filter.specs.Members.{number_of, IsMember, pick_of}
use Rattle.format_filter.specs.Soundness.{FitsWide}
use Rattle.format_filter.specs.working.Progression.{IsIn}
use Rattle.format_filter.specs.Intersection.{IsCommon, IsOfThose, HasForm}

-- the common members of a and b are those of some values that another choice admits, and come in
-- their order
pub record AreListed (a b other : Choice) (values : List Pod) : Type 0 where
  pub only : (x : Pod) → IsCommon a b x → Contains values x × IsMember other x
  pub all : (x : Pod) → Contains values x → IsMember other x → IsCommon a b x
  pub form : (c : Choice) → IsOfThose values (IsMember other) c → HasForm a b c

-- the members of a choice are the numbers of a row, of a type
pub record IsRowOf (choice : Choice) (r : Ranged) : Type 0 where
  pub pick : pick_of choice ≡ number_of r.wide r.pick
  pub only : (x : Pod) → IsMember choice x
      → (n : ℤ) × (x ≡ number_of r.wide n) × IsIn r.row n
  pub all : (n : ℤ) → IsIn r.row n → IsMember choice (number_of r.wide n)
  pub fits : FitsWide r.wide r.pick × FitsWide r.wide r.row.min × FitsWide r.wide r.row.max
  pub step : pos 0 <ℤ r.row.step

-- a Range as a row in steps of 1, and a Step
abbrev pub range_of : Wide → ℤ → ℤ → ℤ → Ranged
range_of wide pick min max = record {
  wide = wide;
  pick = pick;
  row = record { min = min; max = max; step = pos 1 };
}

abbrev pub step_of : Wide → ℤ → ℤ → ℤ → ℤ → Ranged
step_of wide pick min max step = record {
  wide = wide;
  pick = pick;
  row = record { min = min; max = max; step = step };
}

-- a choice is this Range, and this Step
abbrev pub IsRange : Choice → Ranged → Type 0
IsRange choice r = choice ≡ Range r.wide r.pick r.row.min r.row.max

abbrev pub IsStep : Choice → Ranged → Type 0
IsStep choice r = choice ≡ Step r.wide r.pick r.row.min r.row.max r.row.step
