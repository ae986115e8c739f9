-- What is kept so far, and of later nodes all is left.
use Rattle.std.proofs.Common.{◌≡◌, ◌≤◌, ℕ}
use Rattle.std.specs.Prelude.{filter_map}
use Rattle.std.specs.List.{range_with_len}
use Rattle.pw_top.specs.Joined.{kept_at}
use Rattle.pw_top.proofs.joined.kept_in_order.Given as goal

abbrev pub invariant-loop-node : goal.invariant-loop-node
invariant-loop-node l = record {
  ordered : l.ordered ≡ filter_map (kept_at l.fn.sinks) (range_with_len 0 l.node);
  left : (n : ℕ) → l.node ≤ n → kept_at l.left.items n ≡ kept_at l.fn.sinks n;
}
