use Rattle.std.proofs.Common.{take, map}
use Rattle.pw_graph.specs.History.{cycles_of}
use Rattle.pw_graph.specs.working.HistoryFronts.{LeavesOver}
use Rattle.graph_checks.proofs.history.is_legal_history.Given as goal

abbrev pub invariant-loop-epoch : goal.invariant-loop-epoch
invariant-loop-epoch l = LeavesOver (cycles_of (map (λ e. e.shape) (take l.epoch-index l.epochs))) l.events l.rest
