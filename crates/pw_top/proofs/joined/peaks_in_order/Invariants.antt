-- The peaks so far.
use Rattle.std.proofs.Common.{◌≡◌}
use Rattle.std.specs.Prelude.{filter_map}
use Rattle.std.specs.List.{range_with_len}
use Rattle.pw_top.specs.Joined.{peak_at}
use Rattle.pw_top.proofs.joined.peaks_in_order.Given as goal

abbrev pub invariant-loop-node : goal.invariant-loop-node
invariant-loop-node l = l.ordered ≡ filter_map (peak_at l.peaks) (range_with_len 0 l.node)
