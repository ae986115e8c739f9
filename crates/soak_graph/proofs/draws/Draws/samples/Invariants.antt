-- The samples so far are those of the draws so far, and there is room for the others.
use Rattle.std.proofs.Common.{◌≡◌, ◌+◌, ◌≤◌}
use Rattle.soak_graph.specs.Draws.{state_after, samples}
use Rattle.soak_graph.proofs.draws.Draws.samples.Given as goal

abbrev pub invariant-loop : goal.invariant-loop
invariant-loop l = (l.room.list ≡ samples l.fn.self.state 0 l.counter) × (l.self.state ≡ state_after l.counter l.fn.self.state)
    × (l.count ≤ l.counter + l.room.spare)
