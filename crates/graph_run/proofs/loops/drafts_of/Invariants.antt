use Rattle.std.proofs.Common.{◌≡◌, ◌++◌, length, map}
use Rattle.graph_run.specs.Seating.{holder_of}
use Rattle.graph_run.specs.working.Drafts.{AreDrafts}
use Rattle.graph_run.proofs.loops.drafts_of.Given as goal

abbrev pub invariant-loop-row : goal.invariant-loop-row
invariant-loop-row l = record {
  number : l.which ≡ length l.yielded;
  rest : l.fn.seats.items ≡ l.yielded ++ l.row-iterator.rest.items;
  drafts : AreDrafts l.fn.plan (holder_of l.fn.seating) (map (λ row. row.list) l.yielded) 0 l.drafts;
}
