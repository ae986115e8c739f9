-- What is written so far is the stream's, and the points so far are passed.
use Rattle.std.proofs.Common.{◌≡◌, ◌+◌, ◌-◌, ◌*◌, ◌≤◌, ◌++◌, take, drop}
use Rattle.control_sequence.specs.Automation.{automated, AreBehind}
use Rattle.control_sequence.proofs.applying.apply_from.Given as goal

abbrev pub invariant-loop-done : goal.invariant-loop-done
invariant-loop-done l = record {
  within : l.done ≤ l.frames;
  behind : AreBehind l.points (l.first + l.done) l.reached.next l.reached.gain;
  written : l.to ≡ automated l.points l.channels l.first (take (l.done * l.channels) l.s)
      ++ drop (l.done * l.channels) l.fn.to;
}

abbrev pub decreases-loop-done : goal.decreases-loop-done
decreases-loop-done l = l.frames - l.done
