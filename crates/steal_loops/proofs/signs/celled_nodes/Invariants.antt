use Rattle.std.proofs.Common.{◌≡◌, ℕ, ◌<◌, ◌≤◌}
use Rattle.std.specs.Prelude.{◌↔◌}
use Rattle.std.specs.Int.{bit_at}
use Rattle.graph_run.specs.Seating.{holder_of}
use Rattle.steal_loops.proofs.signs.celled_nodes.Given as goal

abbrev pub invariant-loop-node : goal.invariant-loop-node
invariant-loop-node l = record {
  below : (n : ℕ) → n < l.node → (bit_at l.celled n ≡ 1) ↔ (holder_of l.seating n < l.seating.loops);
  above : (n : ℕ) → l.node ≤ n → bit_at l.celled n ≡ 0;
}
