use Rattle.std.proofs.Common.{◌<◌}
use Rattle.pw_graph.specs.History.{start_place, finish_place}
use Rattle.graph_checks.specs.working.Ordered.{StartsLast, IsOrdered}
use Rattle.pw_graph.proofs.HistoryLemmas.{order_by_numbers}
use Rattle.graph_checks.proofs.cycle_history.keeps_order.Goals as goal

pub returns : goal.returns
unfolding StartsLast IsOrdered
returns c =
    let both = order_by_numbers c.args.shape.now
    (λ m n. finish_place c.args.events.now c.args.cycle m < start_place c.args.events.now c.args.cycle n) in
    (λ t. record { waits = both.0 (c.all_start_last.ensures.0 t) }, λ h. c.all_start_last.ensures.1 (both.1 h.waits))
