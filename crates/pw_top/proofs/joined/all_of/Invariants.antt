use Rattle.std.proofs.Common.{◌≡◌}
use Rattle.pw_top.specs.Joined.{all_of}
use Rattle.pw_top.proofs.joined.all_of.Given as goal

abbrev pub invariant-loop-outcome : goal.invariant-loop-outcome
invariant-loop-outcome l = l.all ≡ all_of l.yielded
