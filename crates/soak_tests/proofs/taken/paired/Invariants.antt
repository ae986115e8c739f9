use Rattle.std.proofs.Common.{◌≡◌, ◌++◌, length, map}
use Rattle.soak_tests.proofs.taken.paired.Given as goal

abbrev pub invariant-loop-state : goal.invariant-loop-state
invariant-loop-state l = record {
  states : l.fn.states ≡ map (λ x. x.0) l.all ++ l.state-iterator.rest.items;
  ways : l.fn.ways ≡ map (λ x. x.1) l.all ++ l.rest.rest.items;
  same : length l.rest.rest.items ≡ length l.state-iterator.rest.items;
}
