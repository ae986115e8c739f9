-- The bytes of the links so far.
use Rattle.std.proofs.Common.{◌≡◌, take}
use Rattle.std.specs.Prelude.{sum_by}
use Rattle.pw_graph.specs.PlanSums.{capped}
use Rattle.graph_lines.specs.Sums.{link_bytes}
use Rattle.graph_lines.proofs.limits.block_bytes.Given as goal

abbrev pub invariant-loop-link : goal.invariant-loop-link
invariant-loop-link l = l.total ≡ capped (sum_by (link_bytes l.epoch) (take l.link-index l.link-items))
