-- What is passed is equal.
use Rattle.std.proofs.Common.{◌≡◌, take}
use Rattle.format_filter.proofs.comparing.+equal.Given as goal

abbrev pub invariant-are_equal-loop-i : goal.invariant-are_equal-loop-i
invariant-are_equal-loop-i l = take l.i l.a ≡ take l.i l.b

abbrev pub invariant-are_equal_controls-loop-i : goal.invariant-are_equal_controls-loop-i
invariant-are_equal_controls-loop-i l = take l.i l.a ≡ take l.i l.b

abbrev pub invariant-are_equal_props-loop-i : goal.invariant-are_equal_props-loop-i
invariant-are_equal_props-loop-i l = take l.i l.a ≡ take l.i l.b
