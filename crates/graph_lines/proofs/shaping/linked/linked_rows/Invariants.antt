-- The rows have the links so far.
use Rattle.std.proofs.Common.{◌≡◌, length, take}
use Rattle.graph_lines.specs.Searching.{HasRows}
use Rattle.graph_lines.proofs.shaping.linked.linked_rows.Given as goal

abbrev pub invariant-loop-link : goal.invariant-loop-link
invariant-loop-link l = record {
  long : length l.rows ≡ 4096;
  rows : HasRows (take l.link-index l.links) l.rows;
}
