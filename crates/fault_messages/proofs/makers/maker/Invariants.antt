use Rattle.std.proofs.Common.{◌≡◌, ◌-◌, ◌≤◌, take, find}
use Rattle.graph_script.specs.Lexical.{lines_of}
use Rattle.fault_messages.specs.Makers.{makes}
use Rattle.fault_messages.proofs.makers.maker.Given as goal

abbrev pub invariant-loop : goal.invariant-loop
invariant-loop l = record {
  left : find (makes l.fn.name) (take (l.fn.number - l.counter) (lines_of l.rest)) ≡ find (makes l.fn.name) (take (l.fn.number - 1) (lines_of l.fn.script));
  within : 1 ≤ l.counter;
}
