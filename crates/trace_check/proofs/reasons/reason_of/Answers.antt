use Rattle.std.proofs.Common.{List, length, map, sym, subst, ap}
use Rattle.pw_graph.specs.declared.event.Event.{Event}
use Rattle.pw_graph.specs.declared.plan.Epoch.{Epoch}
use Rattle.pw_graph.specs.History.{cycles_of}
use Rattle.trace_check.specs.working.Progress.{IsProgressOf}
use Rattle.trace_check.proofs.reasons.reason_of.Goals as goal

pub returns : goal.returns
returns c =
    let shapes = map (λ e. e.shape) c.args.plan.now.epochs in
    c.reason_in.ensures shapes c.args.events.now (sym (ap length c.as_slice-events.ensures))
    (subst (λ (p : List Epoch × List Event). IsProgressOf (cycles_of (map (λ e. e.shape) p.0)) p.1 c.in_ok-progress.progress)
    (λ i. (c.as_slice.ensures i, c.as_slice-events.ensures i)) c.in_ok-progress.ensures.progress)
