-- All that are in are joined to the node; when no more are added, each link is closed.
use Rattle.std.proofs.Common.{◌+◌, not, cond}
use Rattle.std.specs.List.{count_by}
use Rattle.graph_lines.proofs.ActivityLemmas.{IsSearched}
use Rattle.graph_lines.proofs.shaping.activity.joined_nodes.Given as goal

abbrev pub invariant-passes : goal.invariant-passes
invariant-passes l = IsSearched l.live l.node l.here l.more

abbrev pub decreases-passes : goal.decreases-passes
decreases-passes l = count_by not l.here + cond l.more 1 0
