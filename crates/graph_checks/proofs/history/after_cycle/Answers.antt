use Rattle.std.proofs.Common.{[], ◌∷◌, sym, subst, refl, MatchOption}
use Rattle.pw_graph.specs.History.{IsLegalCycle}
use Rattle.pw_graph.specs.working.HistoryFronts.{LeavesOver, IsNoFront}
use Rattle.graph_checks.proofs.FrontLemmas.{front_is, front_is_not, front_wants_end, end_found, end_missing}
use Rattle.graph_checks.proofs.history.after_cycle.Goals as goal

pub returns-in_err-n : goal.returns-in_err-n
returns-in_err-n c =
    let front = (c.args.shape.now, c.args.cycle) ∷ [] in let es = c.args.events.now in
    subst (λ o. MatchOption o (IsNoFront front es) (λ r. LeavesOver front es r.now)) (sym c.from_residual.ensures)
    (front_wants_end c.args.shape.now c.args.cycle es (end_missing es c.in_err-n.ensures))

pub returns-then-is_legal_cycle : goal.returns-then-is_legal_cycle
returns-then-is_legal_cycle c =
    let s = c.args.shape.now in let k = c.args.cycle in let es = c.args.events.now in
    subst (LeavesOver ((s, k) ∷ []) es) (sym c.split_at.ensures.back)
    (front_is s k es c.in_ok-n.n (end_found es c.in_ok-n.n c.in_ok-n.ensures)
    (subst (IsLegalCycle s k) c.split_at.ensures.front (c.if-is_legal_cycle.ensures.0 refl)))

pub returns-else-is_legal_cycle : goal.returns-else-is_legal_cycle
returns-else-is_legal_cycle c =
    let s = c.args.shape.now in let k = c.args.cycle in let es = c.args.events.now in
    front_is_not s k es c.in_ok-n.n (end_found es c.in_ok-n.n c.in_ok-n.ensures)
    (λ h. let t = c.if-is_legal_cycle.ensures.1 (subst (IsLegalCycle s k) (sym c.split_at.ensures.front) h) in cc)
