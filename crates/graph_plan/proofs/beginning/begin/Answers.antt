-- The lines of a script may start.
use Rattle.std.proofs.Common.{List, sym, subst}
use Rattle.graph_script.specs.declared.script.Line.{Line}
use Rattle.graph_lines.specs.Start.{MayStart}
use Rattle.graph_plan.proofs.PlannedLemmas.{may_start}
use Rattle.graph_plan.proofs.beginning.begin.Goals as goal

pub begin_with-requires : goal.begin_with-requires
begin_with-requires c = subst (λ (ls : List Line). MayStart ls c.args.ports) (sym c.as_slice.ensures)
    (may_start c.args.script.now c.requires.script c.requires.kinds c.args.ports c.requires.ports)
