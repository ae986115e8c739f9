use Rattle.std.proofs.Common.{map}
use Rattle.graph_run.specs.Seating.{holder_of}
use Rattle.graph_run.specs.working.Drafts.{AreDrafts}
use Rattle.graph_run.proofs.loops.loops_with_pools.Given as goal

abbrev pub invariant-loop-epoch : goal.invariant-loop-epoch
invariant-loop-epoch l = AreDrafts l.fn.plan (holder_of l.fn.seating) (map (λ row. row.list) l.fn.seats.items) l.epoch l.drafts.items
