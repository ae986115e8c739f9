-- What is passed is merged, up to a number below which no key is left.
use Rattle.std.proofs.Common.{ℕ, ◌+◌, ◌-◌, ◌≤◌, length, take, drop}
use Rattle.std.specs.List.{All}
use Rattle.format_filter.proofs.MergeLemmas.{IsMerged}
use Rattle.format_filter.proofs.merging.merge.Given as goal

abbrev pub invariant-loop-i : goal.invariant-loop-i
invariant-loop-i l = record {
  up_to : ℕ;
  merged : IsMerged up_to (take l.i l.a) (take l.j l.b) l.fields;
  own : All (λ f. up_to ≤ f.key) (drop l.i l.a);
  other : All (λ f. up_to ≤ f.key) (drop l.j l.b);
  own_within : l.i ≤ length l.a;
  other_within : l.j ≤ length l.b;
}

abbrev pub decreases-loop-i : goal.decreases-loop-i
decreases-loop-i l = (length l.a - l.i) + (length l.b - l.j)
