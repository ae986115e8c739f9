use Rattle.std.proofs.Common.{◌≤◌, length, ◌≡◌, ◌+◌}
use Rattle.graph_script.specs.Lexical.{lines_of}
use Rattle.graph_script.specs.Grammar.{script_from, script_of}
use Rattle.graph_script.specs.working.Progress.{AreBefore}
use Rattle.graph_script.specs.working.Sound.{IsConsistent}
use Rattle.graph_script.proofs.parsing.parse.Given as goal

-- the lines that are left, after what was said, make the script
abbrev pub invariant-loop-fault : goal.invariant-loop-fault
invariant-loop-fault l = record {
  consistent : IsConsistent l.progress;
  numbered : 1 ≤ l.number;
  before : AreBefore l.number l.progress.reading;
  count : l.number + length l.rest ≤ 1048577;
  parsed : script_from l.number l.progress.reading (lines_of l.rest) ≡ script_of l.fn.bytes;
}

abbrev pub decreases-loop-fault : goal.decreases-loop-fault
decreases-loop-fault l = length l.rest
