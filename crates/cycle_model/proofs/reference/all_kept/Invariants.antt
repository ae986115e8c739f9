use Rattle.std.proofs.Common.{◌≡◌, take, filter_map}
use Rattle.std.specs.List.{enumerate_from}
use Rattle.cycle_model.specs.Rendering.{kept_of}
use Rattle.cycle_model.proofs.reference.all_kept.Given as goal

abbrev pub invariant-loop-i : goal.invariant-loop-i
invariant-loop-i l = l.sinks ≡ filter_map (kept_of l.plan l.waves) (take l.i (enumerate_from 0 l.plan.nodes))
