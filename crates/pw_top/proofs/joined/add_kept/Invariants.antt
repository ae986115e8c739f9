use Rattle.std.proofs.Common.{◌≡◌, ◌++◌}
use Rattle.pw_top.proofs.joined.add_kept.Given as goal

abbrev pub invariant-loop-kept : goal.invariant-loop-kept
invariant-loop-kept l = l.all ≡ l.fn.all ++ l.yielded
