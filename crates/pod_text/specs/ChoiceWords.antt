-- Choices in a word: numbers parted by `|`, or a Range as `MIN..MAX`, or a Step as
-- `MIN..MAX/STEP`. The first is what is preferred. Source: choices are those of SPA POD; the form
-- is this project's own.
use Rattle.std.specs.Prelude.{◌==◌, ◌&&◌, ℕ, pos, nat_le, nat_lt, if◌then◌else◌, List, [], ◌∷◌, ◌++◌, length, fold}
use Rattle.std.specs.Prelude.{Option, Some, None, option_map, option_and_then}
use Rattle.std.specs.List.{slice_split}
use Rattle.pod_codec.specs.declared.pod.Pod.{Pod}
use Rattle.graph_script.specs.Arguments.{number_of}
use Rattle.format_filter.specs.declared.choice.Choice.{Choice}
use Rattle.format_filter.specs.declared.choice.Choice.TheVariants.{Only, Enum, Range, Step}
use Rattle.format_filter.specs.declared.choice.Wide.TheVariants.{Int}
use Rattle.format_filter.specs.Members as members
pub use Rattle.pod_text.specs.Separators.{is_bar, is_dot, is_slash}

-- a number of an Int, without a sign
abbrev pub number_said : List ℕ → Option ℕ
number_said word = number_of 0 2147483647 word

abbrev pub int_of : ℕ → Pod
int_of n = members.number_of Int (pos n)

-- the values of numbers, if all are such
abbrev pub with_number : Option (List Pod) → List ℕ → Option (List Pod)
with_number None piece = None
with_number (Some values) piece = option_map (λ n. values ++ int_of n ∷ []) (number_said piece)

abbrev pub values_said : List ℕ → Option (List Pod)
values_said word = fold with_number (Some []) (slice_split is_bar word)

-- one value, or alternatives
abbrev pub one_of : List Pod → Option Choice
one_of [] = None
one_of (value ∷ []) = Some (Only value)
one_of (value ∷ next ∷ more) = Some (Enum value (value ∷ next ∷ more))

-- a Range, and a Step: the least is what is preferred
abbrev pub range_said : ℕ → ℕ → Option Choice
range_said min max =
    if nat_le min max then Some (Range Int (pos min) (pos min) (pos max)) else None

abbrev pub step_said : ℕ → ℕ → ℕ → Option Choice
step_said min max step =
    if nat_le min max && nat_lt 0 step
    then Some (Step Int (pos min) (pos min) (pos max) (pos step)) else None

-- after a least and a greatest number: nothing, or a step
abbrev pub behind_max : ℕ → Option ℕ → List (List ℕ) → Option Choice
behind_max min None rest = None
behind_max min (Some max) [] = range_said min max
behind_max min (Some max) (step ∷ []) = option_and_then (step_said min max) (number_said step)
behind_max min (Some max) (step ∷ other ∷ more) = None

abbrev pub behind_min : ℕ → List (List ℕ) → Option Choice
behind_min min [] = None
behind_min min (max ∷ rest) = behind_max min (number_said max) rest

-- a least number, and nothing between the two dots after it
abbrev pub spread : List ℕ → Option ℕ → List ℕ → Option Choice
spread gap None rest = None
spread gap (Some min) rest =
    if length gap == 0 then behind_min min (slice_split is_slash rest) else None

-- a word, by its pieces between dots: a single one, or a least number, a gap and the rest
abbrev pub behind_first : List ℕ → List (List ℕ) → Option Choice
behind_first word [] = option_and_then one_of (values_said word)
behind_first min (gap ∷ []) = None
behind_first min (gap ∷ rest ∷ []) = spread gap (number_said min) rest
behind_first min (gap ∷ rest ∷ other ∷ more) = None

abbrev pub by_pieces : List (List ℕ) → Option Choice
by_pieces [] = None
by_pieces (first ∷ rest) = behind_first first rest

-- THE CHOICE of a word
abbrev pub choice_said : List ℕ → Option Choice
choice_said word = by_pieces (slice_split is_dot word)
