use Rattle.std.proofs.Common.{sym, subst}
use Rattle.std.specs.Prelude.{All}
use Rattle.graph_lines.specs.Searching.{IsWithin}
use Rattle.graph_lines.proofs.EpochLemmas.{live_within}
use Rattle.graph_lines.proofs.graph.Graph.active_now.Goals as goal

pub active_nodes-here-requires-clause-within : goal.active_nodes-here-requires-clause-within
active_nodes-here-requires-clause-within c = subst (All IsWithin) (sym c.as_slice-5.ensures)
    (live_within c.args.self.now c.as_slice.result.now c.as_slice-2.result.now c.in_ok-live.live c.requires c.as_slice-2.ensures c.in_ok-live.ensures)
