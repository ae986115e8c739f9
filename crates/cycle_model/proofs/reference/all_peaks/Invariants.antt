use Rattle.std.proofs.Common.{◌≡◌, take, filter_map}
use Rattle.std.specs.List.{enumerate_from}
use Rattle.cycle_model.specs.Rendering.{peak_at}
use Rattle.cycle_model.proofs.reference.all_peaks.Given as goal

abbrev pub invariant-loop-i : goal.invariant-loop-i
invariant-loop-i l = l.peaks ≡ filter_map (peak_at l.plan l.waves) (take l.i (enumerate_from 0 l.plan.nodes))
