-- The frames so far are automated, the others as they were.
use Rattle.std.proofs.Common.{◌≡◌, ◌+◌, ◌-◌, ◌*◌, ◌≤◌, ◌++◌, take, drop}
use Rattle.control_sequence.specs.Automation.{automated}
use Rattle.control_sequence.proofs.automation.Automation.apply_in_place.Given as goal

abbrev pub invariant-loop-done : goal.invariant-loop-done
invariant-loop-done l = record {
  within : l.done ≤ l.frames;
  moved : l.self ≡ record l.fn.self { frames = l.fn.self.frames + l.done };
  written : l.row ≡ automated l.fn.self.points l.fn.self.channels l.fn.self.frames (take (l.done * l.width) l.fn.row)
      ++ drop (l.done * l.width) l.fn.row;
}

abbrev pub decreases-loop-done : goal.decreases-loop-done
decreases-loop-done l = l.frames - l.done
