use Rattle.std.proofs.Common.{◌≡◌, ◌*◌, take, pos, neg_ℤ, ◌≤ℤ◌}
use Rattle.soak_graph.specs.SoakLine.{sum_of}
use Rattle.soak_graph.proofs.line.sum_of.Given as goal

abbrev pub invariant-loop-sample : goal.invariant-loop-sample
invariant-loop-sample l = record {
  sum : l.sum ≡ sum_of (take l.sample-index l.samples);
  low : neg_ℤ (pos (32768 * l.sample-index)) ≤ℤ l.sum;
  high : l.sum ≤ℤ pos (32767 * l.sample-index);
}
