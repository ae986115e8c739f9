-- The text so far and the lines of what is left are all.
use Rattle.std.proofs.Common.{◌≡◌, ◌++◌, drop, map}
use Rattle.std.specs.List.{flat_map}
use Rattle.pod_codec.specs.DumpWords.{text_at}
use Rattle.pod_codec.specs.DumpText.{lines_of, prop_lines_of, control_lines_of}
use Rattle.pod_codec.proofs.dump.+dump.Given as goal

abbrev pub invariant-put_pods-loop-pod : goal.invariant-put_pods-loop-pod
invariant-put_pods-loop-pod l =
    l.text ++ flat_map (text_at l.level) (map lines_of (drop l.pod-index l.pods))
    ≡ l.fn.text ++ flat_map (text_at l.level) (map lines_of l.fn.pods)

abbrev pub invariant-put_props-loop-prop : goal.invariant-put_props-loop-prop
invariant-put_props-loop-prop l =
    l.text ++ flat_map (text_at l.level) (map prop_lines_of (drop l.prop-index l.props))
    ≡ l.fn.text ++ flat_map (text_at l.level) (map prop_lines_of l.fn.props)

abbrev pub invariant-put_controls-loop-control : goal.invariant-put_controls-loop-control
invariant-put_controls-loop-control l =
    l.text ++ flat_map (text_at l.level) (map control_lines_of (drop l.control-index l.controls))
    ≡ l.fn.text ++ flat_map (text_at l.level) (map control_lines_of l.fn.controls)
