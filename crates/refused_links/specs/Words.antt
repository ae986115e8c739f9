-- What a choice admits, in words.
-- Source: SPA POD, "Choice"; spa/pod/pod.h; the words are this project's.
use Rattle.std.specs.Prelude.{ℕ, ℤ, List, [], ◌∷◌, ◌++◌, codes, decimal}
use Rattle.std.specs.List.{flat_map}
use Rattle.std.specs.Fmt.{signed_decimal}
use Rattle.pod_codec.specs.declared.pod.Pod.{Pod}
use Rattle.pod_codec.specs.declared.pod.Pod.TheVariants as pod
use Rattle.format_filter.specs.declared.choice.Choice.{Choice}
use Rattle.format_filter.specs.declared.choice.Choice.TheVariants.{Only, Enum, Range, Step}

-- a number in decimal; no other value is spelled out
abbrev pub value_words : Pod → List ℕ
value_words (pod.Id n) = decimal n
value_words (pod.Int n) = signed_decimal n
value_words (pod.Long n) = signed_decimal n
value_words other = codes "a value that is no number"

-- ALTERNATIVES in their order, with "or" between two
abbrev pub next_words : Pod → List ℕ
next_words value = codes " or " ++ value_words value

abbrev pub enum_words : List Pod → List ℕ
enum_words [] = []
enum_words (first ∷ rest) = value_words first ++ flat_map next_words rest

-- the least and the greatest number, and a step
unfoldable pub range_words : ℤ → ℤ → List ℕ
range_words min max = signed_decimal min ++ (codes " to " ++ signed_decimal max)

unfoldable pub step_words : ℤ → List ℕ
step_words step = codes " in steps of " ++ signed_decimal step

-- CHOICE in words
abbrev pub choice_words : Choice → List ℕ
choice_words (Only value) = value_words value
choice_words (Enum pick alts) = enum_words alts
choice_words (Range wide pick min max) = range_words min max
choice_words (Step wide pick min max step) = range_words min max ++ step_words step
