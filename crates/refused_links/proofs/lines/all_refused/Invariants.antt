use Rattle.std.proofs.Common.{◌≡◌}
use Rattle.graph_lines.specs.Ready.{IsReady}
use Rattle.refused_links.proofs.LinesLemmas.{HasRefusedSoFar}
use Rattle.refused_links.proofs.lines.all_refused.Given as goal

-- whatever links the lines that are left refuse, all lines refuse them after those so far
abbrev pub invariant-loop-line : goal.invariant-loop-line
invariant-loop-line l = record {
  ready : IsReady l.graph;
  kinds : l.graph.kinds ≡ l.fn.graph.kinds;
  refused : HasRefusedSoFar l.waves l.fn.graph l.lines l.line-index l.graph l.refused;
}
