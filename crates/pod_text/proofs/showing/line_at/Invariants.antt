-- The line that is looked for is at the same place of the lines that are left.
use Rattle.std.proofs.Common.{◌≡◌, ◌-◌, ◌≤◌, []}
use Rattle.std.specs.Prelude.{slice_index_or}
use Rattle.graph_script.specs.Lexical.{lines_of}
use Rattle.pod_text.proofs.showing.line_at.Given as goal

abbrev pub invariant-loop : goal.invariant-loop
invariant-loop l = record {
  left : slice_index_or (lines_of l.rest) (l.fn.number - l.counter) [] ≡ slice_index_or (lines_of l.fn.text) (l.fn.number - 1) [];
  within : 1 ≤ l.counter;
}
