-- The lines that are left, after the points so far, make the list.
use Rattle.std.proofs.Common.{◌≤◌, length, ◌≡◌, ◌+◌}
use Rattle.graph_script.specs.Lexical.{lines_of}
use Rattle.pod_text.specs.GainList.{gains_of}
use Rattle.pod_text.specs.GainAnswer.{ArePointsTo}
use Rattle.pod_text.proofs.GainLemmas.{reading_from}
use Rattle.pod_text.proofs.gains.read_gains.Given as goal

abbrev pub invariant-lines : goal.invariant-lines
invariant-lines l = record {
  are : ArePointsTo l.before l.items;
  count : l.number + length l.rest ≤ 1 + length l.fn.bytes;
  read : reading_from l.number l.items (lines_of l.rest) ≡ gains_of l.fn.bytes;
}

abbrev pub decreases-lines : goal.decreases-lines
decreases-lines l = length l.rest
