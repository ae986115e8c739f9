-- The cycles are those of a drain of the nodes that are active now, up to the limit.
use Rattle.std.proofs.Common.{List, ap, ◌∙◌, arith}
use Rattle.graph_lines.specs.declared.standing.Standing.{Standing}
use Rattle.graph_lines.specs.Draining.{drain_cycles}
use Rattle.graph_lines.proofs.AfterLemmas.{drains_for}
use Rattle.graph_lines.proofs.graph.Graph.cycles_left.Goals as goal

pub returns : goal.returns
returns c =
    let g = c.args.self.now in
    let active = c.in_ok-active.active in
    let same = c.drain_cycles-cycles.ensures
    ∙ ap (λ (ns : List Standing). drain_cycles g.quantum ns active.here c.args.waves.now) c.as_slice.ensures in
    let least = c.min.ensures in (
      c.drain_cycles-cycles.result,
      drains_for c.args.waves.now g active c.drain_cycles-cycles.result c.in_ok-active.ensures same,
      omega (arith, least),
    )
