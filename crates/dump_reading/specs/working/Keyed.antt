-- Properties and controls: a line with two numbers, and a value one level deeper. The lines are
-- those of the dump. Source: this project's own.
use Rattle.std.specs.Prelude.{ℕ, ◌+◌, List, codes, bytes_eq, if◌then◌else◌, Option, Some, None, option_map}
use Rattle.pod_codec.specs.declared.pod.Pod.{Pod}
use Rattle.pod_codec.specs.declared.pod.Prop.{Prop}
use Rattle.pod_codec.specs.declared.pod.Control.{Control}
use Rattle.pod_codec.specs.declared.pod.Pod.TheViews.{roll-Prop, roll-Control}
use Rattle.dump_reading.specs.working.Cutting.{cut_at}
use Rattle.dump_reading.specs.working.Lines.{line_said}
use Rattle.dump_reading.specs.working.Numbers.{pair_said}

-- the two numbers after a word
abbrev pub behind_word : List ℕ → Option (List ℕ × List ℕ) → Option (ℕ × ℕ)
behind_word word None = None
behind_word word (Some c) = if bytes_eq c.0 word then pair_said 32 c.1 else None

unfoldable pub numbers_said : List ℕ → List ℕ → Option (ℕ × ℕ)
numbers_said word words = behind_word word (cut_at 32 words)

-- two numbers, and the lines after them
abbrev pub numbers_with : List ℕ → Option (ℕ × ℕ) → Option ((ℕ × ℕ) × List ℕ)
numbers_with rest None = None
numbers_with rest (Some n) = Some (n, rest)

abbrev pub numbers_in : List ℕ → Option (List ℕ × List ℕ)
    → Option ((ℕ × ℕ) × List ℕ)
numbers_in word None = None
numbers_in word (Some c) = numbers_with c.1 (numbers_said word c.0)

unfoldable pub keyed_said : List ℕ → ℕ → List ℕ → Option ((ℕ × ℕ) × List ℕ)
keyed_said word level text = numbers_in word (line_said level text)

-- a property and a control of two numbers and a value
abbrev pub prop_of : ℕ × ℕ → Pod → Prop
prop_of n value = roll-Prop (record { key = n.0; flags = n.1; value = value })

abbrev pub control_of : ℕ × ℕ → Pod → Control
control_of n value = roll-Control (record { offset = n.0; kind = n.1; value = value })

abbrev pub prop_with : (ℕ → List ℕ → Option (Pod × List ℕ)) → ℕ
    → Option ((ℕ × ℕ) × List ℕ) → Option (Prop × List ℕ)
prop_with read level None = None
prop_with read level (Some k) = option_map (λ c. (prop_of k.0 c.0, c.1)) (read (level + 1) k.1)

unfoldable pub prop_said : (ℕ → List ℕ → Option (Pod × List ℕ)) → ℕ → List ℕ
    → Option (Prop × List ℕ)
prop_said read level text = prop_with read level (keyed_said (codes "prop") level text)

abbrev pub control_with : (ℕ → List ℕ → Option (Pod × List ℕ)) → ℕ
    → Option ((ℕ × ℕ) × List ℕ) → Option (Control × List ℕ)
control_with read level None = None
control_with read level (Some k) =
    option_map (λ c. (control_of k.0 c.0, c.1)) (read (level + 1) k.1)

unfoldable pub control_said : (ℕ → List ℕ → Option (Pod × List ℕ)) → ℕ → List ℕ
    → Option (Control × List ℕ)
control_said read level text = control_with read level (keyed_said (codes "control") level text)
