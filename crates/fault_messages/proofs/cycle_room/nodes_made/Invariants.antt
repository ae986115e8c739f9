use Rattle.std.proofs.Common.{◌≡◌, ◌+◌, ◌-◌, ◌≤◌, take}
use Rattle.graph_script.specs.Lexical.{lines_of}
use Rattle.fault_messages.specs.CycleRoom.{nodes_made}
use Rattle.fault_messages.proofs.cycle_room.nodes_made.Given as goal

-- the count so far, and the makers among the lines that are left
abbrev pub invariant-loop : goal.invariant-loop
invariant-loop l = record {
  left : l.count + nodes_made (take (l.fn.number - l.counter) (lines_of l.rest)) ≡ nodes_made (take (l.fn.number - 1) (lines_of l.fn.script));
  within : 1 ≤ l.counter;
  few : l.count + 1 ≤ l.counter;
}
