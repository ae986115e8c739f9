use Rattle.std.proofs.Common.{◌≤◌, length}
use Rattle.std.specs.Prelude.{sum_by}
use Rattle.pw_graph.specs.Layout.{event_count}
use Rattle.graph_run.proofs.ClosingLemmas.{Between}
use Rattle.graph_run.proofs.closing.close_all.Given as goal

abbrev pub invariant-loop-driver : goal.invariant-loop-driver
invariant-loop-driver l = record {
  between : Between l.fn.boards l.fn.drivers l.rest.rest.items l.driver-iterator.rest.items l.closed.list l.history.list;
  room : length l.rest.rest.items ≤ l.closed.spare;
  events : sum_by (λ b. event_count b.board_shape.shape) l.rest.rest.items ≤ l.history.spare;
}
