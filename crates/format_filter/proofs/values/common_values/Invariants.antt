-- Those of the values that are passed.
use Rattle.std.proofs.Common.{take}
use Rattle.format_filter.specs.Members.{IsMember}
use Rattle.format_filter.specs.Intersection.{AreThoseOf}
use Rattle.format_filter.proofs.values.common_values.Given as goal

abbrev pub invariant-loop-value : goal.invariant-loop-value
invariant-loop-value l = AreThoseOf (take l.value-index l.values) (IsMember l.other) l.those
