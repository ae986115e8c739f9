-- No value that is passed is equal.
use Rattle.std.proofs.Common.{take}
use Rattle.std.specs.List.{Contains}
use Rattle.format_filter.proofs.members.is_among.Given as goal

abbrev pub invariant-loop-each : goal.invariant-loop-each
invariant-loop-each l = Contains (take l.each-index l.values) l.value → ⊥
