use Rattle.std.proofs.Common.{◌≡◌, ℕ, ◌+◌, sym, subst, arith, MatchOption}
use Rattle.pw_graph.specs.History.{epoch_cycles}
use Rattle.pw_graph.specs.working.HistoryFronts.{LeavesOver, IsNoFront}
use Rattle.graph_checks.proofs.FrontLemmas.{epoch_more, epoch_stops}
use Rattle.graph_checks.proofs.history.after_epoch.Goals as goal

pub returns-in_err-rest : goal.returns-in_err-rest
returns-in_err-rest c =
    let s = c.args.shape.now in let es = c.args.events.now in
    let cycle : ℕ = c.from.result + c.from-in-loop-k.result in
    let at : cycle ≡ s.first + c.loop-k.k = omega arith in
    subst (λ o. MatchOption o (IsNoFront (epoch_cycles s s.cycles) es) (λ r. LeavesOver (epoch_cycles s s.cycles) es r.now))
    (sym c.from_residual.ensures)
    (epoch_stops s c.loop-k.k cycle es c.loop-k.rest.now at c.loop-k.invariant (omega arith) c.in_err-rest.ensures)

pub loop-k-preserved : goal.loop-k-preserved
loop-k-preserved c =
    let s = c.args.shape.now in
    let cycle : ℕ = c.from.result + c.from-in-loop-k.result in
    let at : cycle ≡ s.first + c.loop-k.k = omega arith in
    epoch_more s c.loop-k.k cycle c.args.events.now c.loop-k.rest.now at c.loop-k.invariant c.in_ok-rest.rest.now c.in_ok-rest.ensures
