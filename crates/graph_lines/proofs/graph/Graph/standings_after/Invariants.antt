-- What is said of the nodes so far.
use Rattle.std.proofs.Common.{◌≡◌, ℕ, ◌<◌, length}
use Rattle.graph_lines.specs.Activity.{standing}
use Rattle.graph_lines.specs.EpochLines.{StandsAfter}
use Rattle.graph_lines.proofs.graph.Graph.standings_after.Given as goal

abbrev pub invariant-loop-node : goal.invariant-loop-node
invariant-loop-node l = record {
  many : length l.nodes ≡ l.node;
  each : (n : ℕ) → n < l.node → StandsAfter l.self l.epoch n (standing l.nodes n);
}
