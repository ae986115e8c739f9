use Rattle.cycle_trace.specs.ResultLines.{result_line}
use Rattle.cycle_trace.proofs.TextLemmas.{node_told}
use Rattle.cycle_trace.proofs.result_lines.append_result_lines.Goals as goal

pub loop-place-preserved : goal.loop-place-preserved
loop-place-preserved c = node_told (result_line c.args.outcome.now)
    c.args.nodes.now c.index-nodes-place.result c.loop-place.place c.args.text.now c.loop-place.text _ c.loop-place-test.true
    c.index-nodes-place.is c.loop-place.invariant c.in_ok-append_result_line.ensures
