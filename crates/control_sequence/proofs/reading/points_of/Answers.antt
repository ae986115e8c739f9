-- One control more; a control at fault is the first.
use Rattle.control_sequence.proofs.PointLemmas.{step_kept}
use Rattle.control_sequence.proofs.reading.points_of.Goals as goal

pub loop-index-preserved : goal.loop-index-preserved
loop-index-preserved c = step_kept c.args.controls.now c.loop-index.index c.loop-index.items c.add_point.new.items c.loop-index.before
    c.index-controls-index.result c.loop-index.invariant c.loop-index-test.true c.index-controls-index.is c.in_ok-add_point.ensures.ok
    c.in_ok-add_point.ensures.passed.0 c.in_ok-add_point.ensures.passed.1
