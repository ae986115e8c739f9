use Rattle.std.proofs.Common.{◌≡◌, take}
use Rattle.std.specs.Prelude.{sum_by}
use Rattle.pw_graph.specs.PlanSums.{link_bytes, capped}
use Rattle.graph_checks.proofs.plan_sums.all_link_bytes.Given as goal

abbrev pub invariant-loop-link : goal.invariant-loop-link
invariant-loop-link l = l.total ≡ capped (sum_by (link_bytes l.plan) (take l.link-index l.links))
