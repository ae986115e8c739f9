use Rattle.graph_run.specs.working.Drafts.{AreGrown}
use Rattle.graph_run.proofs.loops.add_epoch.Given as goal

abbrev pub invariant-loop-i : goal.invariant-loop-i
invariant-loop-i l = AreGrown l.fn.plan l.i l.fn.drafts.items l.drafts.items
