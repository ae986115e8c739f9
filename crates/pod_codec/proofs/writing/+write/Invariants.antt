-- What is written so far and the bytes of what is left are all; what is passed fits.
use Rattle.std.proofs.Common.{◌≡◌, ◌++◌, drop, map}
use Rattle.std.specs.List.{flat_map, AllByRecursion}
use Rattle.pod_codec.specs.Framing.{framed, keyed_bytes}
use Rattle.pod_codec.specs.PodValue.{form_of, keyed_of, control_keyed}
use Rattle.pod_codec.specs.Writable.{Fits}
use Rattle.pod_codec.specs.Numbers.{PropFits, ControlFits, NumbersFit}
use Rattle.pod_codec.proofs.writing.+write.Given as goal

abbrev pub invariant-put_pods-loop-pod : goal.invariant-put_pods-loop-pod
invariant-put_pods-loop-pod l =
    let left = map form_of (drop l.pod-index l.pods) in
    let all = map form_of l.fn.pods in
    record {
      bytes : l.to ++ flat_map framed left ≡ l.fn.to ++ flat_map framed all;
      fits : AllByRecursion (Fits l.left) left → AllByRecursion (Fits l.left) all;
      only : AllByRecursion (Fits l.left) all → AllByRecursion (Fits l.left) left;
      numbers : AllByRecursion (NumbersFit l.left) (drop l.pod-index l.pods) → AllByRecursion (NumbersFit l.left) l.fn.pods;
    }

abbrev pub invariant-put_props-loop-prop : goal.invariant-put_props-loop-prop
invariant-put_props-loop-prop l =
    let left = map keyed_of (drop l.prop-index l.props) in
    let all = map keyed_of l.fn.props in
    record {
      bytes : l.to ++ flat_map keyed_bytes left ≡ l.fn.to ++ flat_map keyed_bytes all;
      fits : AllByRecursion (λ k. Fits l.left k.value) left → AllByRecursion (λ k. Fits l.left k.value) all;
      only : AllByRecursion (λ k. Fits l.left k.value) all → AllByRecursion (λ k. Fits l.left k.value) left;
      numbers : AllByRecursion (PropFits (NumbersFit l.left)) (drop l.prop-index l.props)
          → AllByRecursion (PropFits (NumbersFit l.left)) l.fn.props;
    }

abbrev pub invariant-put_controls-loop-control : goal.invariant-put_controls-loop-control
invariant-put_controls-loop-control l =
    let left = map control_keyed (drop l.control-index l.controls) in
    let all = map control_keyed l.fn.controls in
    record {
      bytes : l.to ++ flat_map keyed_bytes left ≡ l.fn.to ++ flat_map keyed_bytes all;
      fits : AllByRecursion (λ k. Fits l.left k.value) left → AllByRecursion (λ k. Fits l.left k.value) all;
      only : AllByRecursion (λ k. Fits l.left k.value) all → AllByRecursion (λ k. Fits l.left k.value) left;
      numbers : AllByRecursion (ControlFits (NumbersFit l.left)) (drop l.control-index l.controls)
          → AllByRecursion (ControlFits (NumbersFit l.left)) l.fn.controls;
    }
