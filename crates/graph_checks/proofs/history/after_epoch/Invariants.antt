use Rattle.pw_graph.specs.History.{epoch_cycles}
use Rattle.pw_graph.specs.working.HistoryFronts.{LeavesOver}
use Rattle.graph_checks.proofs.history.after_epoch.Given as goal

abbrev pub invariant-loop-k : goal.invariant-loop-k
invariant-loop-k l = LeavesOver (epoch_cycles l.fn.shape l.k) l.events l.rest
