use Rattle.std.proofs.Common.{true≢false, sym, subst}
use Rattle.steal_loops.specs.working.Cells.{IsFinished}
use Rattle.steal_loops.proofs.collecting.collect.Goals.{in-None, in-Some+then-is_finished}
use Rattle.steal_loops.proofs.collecting.collect.Goals as goal

pub returns-clause-finished : goal.returns-clause-finished
returns-clause-finished g c = elim c.match-next.branch [
  | in-None w ↦ absurd (true≢false (sym w.in-None.ensures.steps))
  | in-Some+then-is_finished w ↦ subst (IsFinished c.args.shared.now c.args.cell) (sym w.state-is) (w.is_finished.ensures.finished w.if-is_finished.true)
]
