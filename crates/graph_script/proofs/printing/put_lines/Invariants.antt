use Rattle.std.proofs.Common.{◌≡◌, ◌++◌, length}
use Rattle.graph_script.specs.Printing.{text_from}
use Rattle.graph_script.specs.Printable.{AreFrom, AreWritable}
use Rattle.graph_script.proofs.printing.put_lines.Given as goal

-- the text so far, and the lines that are left
abbrev pub invariant-loop-rest : goal.invariant-loop-rest
invariant-loop-rest l = record {
  text : l.text ++ text_from l.names l.kinds l.number l.rest ≡ l.fn.text ++ text_from l.names l.kinds 1 l.lines;
  numbered : AreFrom l.number l.rest;
  writable : AreWritable l.names l.kinds l.rest;
}

abbrev pub decreases-loop-rest : goal.decreases-loop-rest
decreases-loop-rest l = length l.rest
