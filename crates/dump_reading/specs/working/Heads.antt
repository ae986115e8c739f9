-- What the words of a line say of a value: a value that holds no others, or what a container is
-- and how many lines of its own it has. The words are those of the dump. Source: this project's
-- own.
use Rattle.std.specs.Prelude.{ℕ, List, codes, bytes_eq, if◌then◌else◌, Option, Some, None, Bool, true, false}
use Rattle.std.specs.Prelude.{option_map}
use Rattle.pod_codec.specs.declared.pod.Pod.TheVariants as P
use Rattle.pod_codec.specs.declared.pod.ChoiceKind.{ChoiceKind}
use Rattle.dump_reading.specs.declared.heads.Head.{Head}
use Rattle.dump_reading.specs.declared.heads.Head.TheVariants as H
use Rattle.dump_reading.specs.declared.names.Name.{Name}
use Rattle.dump_reading.specs.declared.names.Name.TheVariants as N
use Rattle.dump_reading.specs.working.Bytes.{float_said, double_said, quoted_hex_said}
use Rattle.dump_reading.specs.working.Cutting.{cut_at}
use Rattle.dump_reading.specs.working.Strings.{quoted_said}
use Rattle.dump_reading.specs.working.Names.{name_said, kind_said}
use Rattle.dump_reading.specs.working.Numbers.{number_said, pair_said, triple_said, integer_said}

abbrev pub bool_said : List ℕ → Option Bool
bool_said word = if bytes_eq word (codes "true") then Some true
    else (if bytes_eq word (codes "false") then Some false else None)

-- a choice, by its kind and three numbers
abbrev pub choice_with : Option ChoiceKind → Option (ℕ × ℕ × ℕ) → Option Head
choice_with None t = None
choice_with (Some kind) None = None
choice_with (Some kind) (Some t) = Some (H.Choice kind t.0 t.1 t.2)

abbrev pub choice_in : Option (List ℕ × List ℕ) → Option Head
choice_in None = None
choice_in (Some c) = choice_with (kind_said c.0) (triple_said c.1)

-- what is after the name of a value
unfoldable pub args_said : Name → List ℕ → Option Head
args_said N.Bool args = option_map (λ b. H.Leaf (P.Bool b)) (bool_said args)
args_said N.Id args = option_map (λ n. H.Leaf (P.Id n)) (number_said args)
args_said N.Int args = option_map (λ n. H.Leaf (P.Int n)) (integer_said 2147483647 args)
args_said N.Long args = option_map (λ n. H.Leaf (P.Long n)) (integer_said 9223372036854775807 args)
args_said N.Float args = option_map (λ n. H.Leaf (P.FloatBits n)) (float_said args)
args_said N.Double args = option_map (λ n. H.Leaf (P.DoubleBits n)) (double_said args)
args_said N.Fd args = option_map (λ n. H.Leaf (P.Fd n)) (integer_said 9223372036854775807 args)
args_said N.String args = option_map (λ t. H.Leaf (P.Text t)) (quoted_said args)
args_said N.Bytes args = option_map (λ t. H.Leaf (P.Bytes t)) (quoted_hex_said args)
args_said N.Rectangle args = option_map (λ p. H.Leaf (P.Rectangle p.0 p.1)) (pair_said 120 args)
args_said N.Fraction args = option_map (λ p. H.Leaf (P.Fraction p.0 p.1)) (pair_said 47 args)
args_said N.Bitmap args = option_map (λ t. H.Leaf (P.Bitmap t)) (quoted_hex_said args)
args_said N.Array args = option_map (λ p. H.Array p.0 p.1) (pair_said 32 args)
args_said N.Struct args = option_map (λ n. H.Struct n) (number_said args)
args_said N.Object args = option_map (λ t. H.Object t.0 t.1 t.2) (triple_said args)
args_said N.Choice args = choice_in (cut_at 32 args)
args_said N.Sequence args = option_map (λ p. H.Sequence p.0 p.1) (pair_said 32 args)

abbrev pub named : Option Name → List ℕ → Option Head
named None args = None
named (Some name) args = args_said name args

-- words without a space, or with one
abbrev pub head_in : List ℕ → Option (List ℕ × List ℕ) → Option Head
head_in words None = if bytes_eq words (codes "none") then Some (H.Leaf P.None) else None
head_in words (Some c) = named (name_said c.0) c.1

-- THE HEAD that words say
unfoldable pub head_said : List ℕ → Option Head
head_said words = head_in words (cut_at 32 words)
