-- The points so far are at or before the frame.
use Rattle.std.proofs.Common.{length, ◌-◌}
use Rattle.control_sequence.specs.Automation.{AreBehind}
use Rattle.control_sequence.proofs.applying.reach.Given as goal

abbrev pub invariant-loop-reached : goal.invariant-loop-reached
invariant-loop-reached l = AreBehind l.points l.frame l.reached.next l.reached.gain

abbrev pub decreases-loop-reached : goal.decreases-loop-reached
decreases-loop-reached l = length l.points - l.reached.next
