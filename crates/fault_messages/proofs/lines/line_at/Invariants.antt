use Rattle.std.proofs.Common.{◌≡◌, ◌-◌, ◌≤◌}
use Rattle.std.specs.Prelude.{slice_get}
use Rattle.graph_script.specs.Lexical.{lines_of}
use Rattle.fault_messages.proofs.lines.line_at.Given as goal

abbrev pub invariant-loop : goal.invariant-loop
invariant-loop l = record {
  left : slice_get (lines_of l.rest) (l.fn.number - l.counter) ≡ slice_get (lines_of l.fn.script) (l.fn.number - 1);
  within : 1 ≤ l.counter;
}
