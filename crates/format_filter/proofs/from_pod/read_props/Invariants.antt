-- The properties that are passed are read.
use Rattle.std.proofs.Common.{take}
use Rattle.format_filter.specs.working.PropReading.{AreRead}
use Rattle.format_filter.proofs.from_pod.read_props.Given as goal

abbrev pub invariant-loop-prop : goal.invariant-loop-prop
invariant-loop-prop l = AreRead (take l.prop-index l.props) l.read
