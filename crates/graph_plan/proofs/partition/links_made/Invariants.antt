use Rattle.std.proofs.Common.{◌≡◌}
use Rattle.std.specs.Prelude.{All}
use Rattle.graph_lines.specs.Ready.{IsReady}
use Rattle.graph_lines.specs.Searching.{IsWithin}
use Rattle.graph_plan.proofs.linked_parts.RehearsalLemmas.{HasMadeSoFar}
use Rattle.graph_plan.proofs.partition.links_made.Given as goal

-- whatever links the lines that are left make, all lines make them after those so far
abbrev pub invariant-loop-line : goal.invariant-loop-line
invariant-loop-line l = record {
  ready : IsReady l.graph;
  kinds : l.graph.kinds ≡ l.fn.graph.kinds;
  made : HasMadeSoFar l.waves l.fn.graph l.lines l.line-index l.graph l.made;
  within : All IsWithin l.made;
}
