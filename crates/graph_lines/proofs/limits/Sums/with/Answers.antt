use Rattle.pw_graph.specs.PlanSums.{epoch_events}
use Rattle.graph_lines.specs.Sums.{sums_with, capped_sums, sink_samples, block_bytes}
use Rattle.graph_lines.proofs.SumLemmas.{counted_sum, same_sums}
use Rattle.graph_lines.proofs.limits.Sums.with.Goals as goal

pub returns : goal.returns
returns c = let g = c.args.self in let e = c.args.epoch.now in
    same_sums c.sum_of-events.result c.sum_of-samples.result c.sum_of-bytes.result (capped_sums (sums_with c.args.kinds.now g e))
    (counted_sum g.events _ (epoch_events e) c.sum_of-events.result c.epoch_events.ensures c.sum_of-events.ensures)
    (counted_sum g.samples _ (sink_samples c.args.kinds.now e) c.sum_of-samples.result c.sink_samples.ensures c.sum_of-samples.ensures)
    (counted_sum g.bytes _ (block_bytes e) c.sum_of-bytes.result c.block_bytes.ensures c.sum_of-bytes.ensures)
