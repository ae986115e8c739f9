use Rattle.std.proofs.Common.{◌≡◌, ◌++◌, length, map}
use Rattle.graph_run.proofs.preparing.loop_ways.Given as goal

abbrev pub invariant-loop-state : goal.invariant-loop-state
invariant-loop-state l = record {
  states : l.fn.states ≡ map (λ given. given.state) l.all ++ l.state-iterator.rest.items;
  ways : l.fn.ways ≡ map (λ given. given.way) l.all ++ l.rest.rest.items;
  same : length l.rest.rest.items ≡ length l.state-iterator.rest.items;
}
