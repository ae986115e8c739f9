use Rattle.std.proofs.Common.{refl}
use Rattle.graph_checks.specs.working.Ordered.{IsRun}
use Rattle.graph_checks.proofs.cycle_history.is_legal_inside.Goals as goal

pub returns-then-keeps_order : goal.returns-then-keeps_order
unfolding IsRun
returns-then-keeps_order c = (
  λ t. record {
    only = c.if-not-all_of_cycle.ensures.0 refl;
    nodes = c.if-not-all_run_once.ensures.0 refl;
    order = c.if-keeps_order.ensures.0 refl;
    ticks = c.has_few_ticks.ensures.0 t;
  },
  λ h. c.has_few_ticks.ensures.1 h.ticks,
)
