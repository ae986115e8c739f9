-- The value that lines say, read from the first line on: a line at its level, and what is a
-- level deeper under it. The lines are those of the dump. Source: this project's own.
use Rattle.std.specs.Prelude.{ℕ, zero, suc, ◌+◌, ◌==◌, ◌&&◌, ◌||◌, nat_lt, Bool, if◌then◌else◌, List, [], length}
use Rattle.std.specs.Prelude.{Option, Some, None, option_map}
use Rattle.pw_lists.specs.Limits.{depth_limit}
use Rattle.pod_codec.specs.declared.pod.Pod.{Pod}
use Rattle.pod_codec.specs.declared.pod.Pod.TheVariants as P
use Rattle.pod_codec.specs.PodType.{child_size}
use Rattle.pod_codec.specs.PodValue.{form_of}
use Rattle.dump_reading.specs.declared.heads.Head.{Head}
use Rattle.dump_reading.specs.declared.heads.Head.TheVariants as H
use Rattle.dump_reading.specs.working.Heads.{head_said}
use Rattle.dump_reading.specs.working.Keyed.{prop_said, control_said}
use Rattle.dump_reading.specs.working.Lines.{line_said, many}

-- a value of this child type that holds no others
abbrev pub element_in : ℕ → Option Head → List ℕ → Option (Pod × List ℕ)
element_in child None rest = None
element_in child (Some (H.Leaf pod)) rest =
    if (form_of pod).number == child then Some (pod, rest) else None
element_in child (Some other) rest = None

abbrev pub element_line : ℕ → Option (List ℕ × List ℕ) → Option (Pod × List ℕ)
element_line child None = None
element_line child (Some c) = element_in child (head_said c.0) c.1

unfoldable pub element_said : ℕ → ℕ → List ℕ → Option (Pod × List ℕ)
element_said child level text = element_line child (line_said level text)

-- whether an array or a choice may hold n values of this type
abbrev pub may_hold : ℕ → ℕ → Bool
may_hold child n = nat_lt 0 (child_size child) || ((child == 1) && (n == 0))

-- what a head holds, in the lines after it, where values are read by this
unfoldable pub held_said : (ℕ → List ℕ → Option (Pod × List ℕ)) → ℕ → Head
    → List ℕ → Option (Pod × List ℕ)
held_said read level (H.Leaf pod) text = Some (pod, text)
held_said read level (H.Array child n) text = if may_hold child n
    then option_map (λ c. (P.Array child c.0, c.1))
    (many (element_said child (level + 1)) n [] text)
    else None
held_said read level (H.Struct n) text =
    option_map (λ c. (P.Struct c.0, c.1)) (many (read (level + 1)) n [] text)
held_said read level (H.Object object id n) text =
    option_map (λ c. (P.Object object id c.0, c.1)) (many (prop_said read (level + 1)) n [] text)
held_said read level (H.Choice kind flags child n) text = if may_hold child n
    then option_map (λ c. (P.Choice kind flags child c.0, c.1))
    (many (element_said child (level + 1)) n [] text)
    else None
held_said read level (H.Sequence unit n) text =
    option_map (λ c. (P.Sequence unit c.0, c.1)) (many (control_said read (level + 1)) n [] text)

abbrev pub value_in : (ℕ → List ℕ → Option (Pod × List ℕ)) → ℕ → Option Head
    → List ℕ → Option (Pod × List ℕ)
value_in read level None rest = None
value_in read level (Some head) rest = held_said read level head rest

abbrev pub value_line : (ℕ → List ℕ → Option (Pod × List ℕ)) → ℕ
    → Option (List ℕ × List ℕ) → Option (Pod × List ℕ)
value_line read level None = None
value_line read level (Some c) = value_in read level (head_said c.0) c.1

-- A VALUE at a level, with `left` levels left, and what follows its lines
unfoldable pub value_said : ℕ → ℕ → List ℕ → Option (Pod × List ℕ)
value_said zero level text = None
value_said (suc left) level text = value_line (value_said left) level (line_said level text)

-- the value of a whole text
abbrev pub alone : Option (Pod × List ℕ) → Option Pod
alone None = None
alone (Some c) = if length c.1 == 0 then Some c.0 else None

unfoldable pub pod_said : List ℕ → Option Pod
pod_said text = alone (value_said depth_limit 0 text)
