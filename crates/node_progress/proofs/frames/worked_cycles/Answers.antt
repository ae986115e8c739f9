use Rattle.std.proofs.Common.{◌≡◌, ◌∙◌, ◌≤◌, ◌<◌, List, length, get_or, sum_by, sym, ap, subst, arith}
use Rattle.std.proofs.lemmas.Bool.{cond-true}
use Rattle.std.proofs.lemmas.List.{take_all}
use Rattle.pw_graph.specs.declared.plan.Epoch.{Epoch}
use Rattle.node_progress.specs.Standing.{works_in}
use Rattle.node_progress.proofs.FrameLemmas.{own_cycles, worked_is, sum_within}
use Rattle.node_progress.proofs.frames.worked_cycles.Goals as goal

pub overflow_add-cycles : goal.overflow_add-cycles
overflow_add-cycles c = let es = c.args.plan.now.epochs in let i = c.loop-epoch.epoch-index in let n = c.args.node in
    let e : Epoch = c.epoch-item.result in
    let low : i < length es = subst (λ (l : List Epoch). i < length l) c.as_slice-epoch-items.ensures c.loop-epoch-test.true in
    let is : e ≡ get_or es i e = c.epoch-item.is ∙ ap (λ (l : List Epoch). get_or l i e) c.as_slice-epoch-items.ensures in
    let own : own_cycles n (get_or es i e) ≡ e.shape.cycles = sym (ap (own_cycles n) is)
    ∙ cond-true (works_in e n) e.shape.cycles 0 (sym c.works_in.ensures ∙ c.if-works_in.true) in
    let most = sum_within n es i low e in
    let few = c.requires.events in
    let so_far = c.loop-epoch.invariant in
    let wide = c.from-cycles.ensures in
    omega (arith, own, most, few, so_far, wide)

pub returns : goal.returns
returns c = let es = c.args.plan.now.epochs in
    let long : length es ≤ c.loop-epoch.epoch-index =
    subst (λ (l : List Epoch). length l ≤ c.loop-epoch.epoch-index) c.as_slice-epoch-items.ensures c.loop-epoch-test.false in
    c.loop-epoch.invariant ∙ ap (sum_by (own_cycles c.args.node)) (take_all c.loop-epoch.epoch-index es long)
    ∙ worked_is c.args.plan.now c.requires c.args.node
