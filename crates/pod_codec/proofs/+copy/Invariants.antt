-- Each loop has copied the values that it has passed.
use Rattle.std.proofs.Common.{◌≡◌, take}
use Rattle.pod_codec.proofs.+copy.Given as goal

abbrev pub invariant-copying::copy_controls-loop-control : goal.invariant-copying::copy_controls-loop-control
invariant-copying::copy_controls-loop-control l = l.all ≡ take l.control-index l.controls

abbrev pub invariant-copying::copy_pods-loop-pod : goal.invariant-copying::copy_pods-loop-pod
invariant-copying::copy_pods-loop-pod l = l.all ≡ take l.pod-index l.pods

abbrev pub invariant-copying::copy_props-loop-prop : goal.invariant-copying::copy_props-loop-prop
invariant-copying::copy_props-loop-prop l = l.all ≡ take l.prop-index l.props
