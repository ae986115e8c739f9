use Rattle.std.proofs.Common.{◌↔◌, IsTrue, sym, subst, map}
use Rattle.std.proofs.lemmas.List.{take_all}
use Rattle.pw_graph.specs.History.{IsLegalHistory, cycles_of}
use Rattle.pw_graph.specs.working.HistoryFronts.{LeavesOver}
use Rattle.graph_checks.proofs.FrontLemmas.{history_more, history_stops, history_decides}
use Rattle.graph_checks.proofs.history.is_legal_history.Goals as goal

pub returns-in-None : goal.returns-in-None
returns-in-None c = (
  λ f. cc,
  λ h. absurd (history_stops c.args.epochs.now c.loop-epoch.epoch-index c.epoch-item.result c.args.events.now c.loop-epoch.rest.now
      c.loop-epoch-test.true c.epoch-item.is c.loop-epoch.invariant c.in-None.ensures h),
)

pub loop-epoch-preserved : goal.loop-epoch-preserved
loop-epoch-preserved c =
    history_more c.args.epochs.now c.loop-epoch.epoch-index c.epoch-item.result c.args.events.now c.loop-epoch.rest.now
    c.loop-epoch-test.true c.epoch-item.is c.loop-epoch.invariant c.in-Some.more.now c.in-Some.ensures

pub returns : goal.returns
returns c =
    let all = c.args.epochs.now in let es = c.args.events.now in
    let h = subst (λ xs. LeavesOver (cycles_of (map (λ e. e.shape) xs)) es c.loop-epoch.rest.now)
    (take_all c.loop-epoch.epoch-index all c.loop-epoch-test.false) c.loop-epoch.invariant in
    subst (λ b. IsTrue b ↔ IsLegalHistory (map (λ e. e.shape) all) es) (sym c.is_empty.ensures)
    (history_decides (map (λ e. e.shape) all) es c.loop-epoch.rest.now h)
