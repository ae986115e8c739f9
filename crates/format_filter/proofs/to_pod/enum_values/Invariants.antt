-- The pick and the alternatives that are passed.
use Rattle.std.proofs.Common.{◌≡◌, ◌∷◌, take}
use Rattle.format_filter.proofs.to_pod.enum_values.Given as goal

abbrev pub invariant-loop-alt : goal.invariant-loop-alt
invariant-loop-alt l = l.values ≡ l.pick ∷ take l.alt-index l.alts
