use Rattle.std.proofs.Common.{◌≡◌, ◌<◌, length, ap, sym, ◌∙◌, subst, arith}
use Rattle.data_loop.specs.declared.draft.LoopDraft.{LoopDraft}
use Rattle.data_loop.specs.Dealt.{AreLinksIn}
use Rattle.graph_run.specs.working.Drafts.{IsGrown, AreGrown}
use Rattle.graph_run.proofs.DraftLemmas.{one_grown}
use Rattle.graph_run.proofs.loops.add_epoch.Goals as goal

pub add_epoch-requires-clause-links : goal.add_epoch-requires-clause-links
add_epoch-requires-clause-links c = let before = c.loop-i-test.true in let end = c.len-i-end.ensures in let long = c.args.drafts.now.ok.0 in
    let low : c.loop-i.i < length c.args.drafts.now.items = omega (arith, before, end, long) in let d : LoopDraft = c.index_mut.result.now in
    subst (λ n. AreLinksIn c.args.plan.now n c.in_ok-links.links)
    (sym (c.requires.next c.loop-i.i d low)
    ∙ ap (λ (x : LoopDraft). length x.epoch_states) (sym (c.loop-i.invariant.same c.loop-i.i d (omega arith)) ∙ sym c.index_mut.ensures.value))
    c.in_ok-links.ensures

pub loop-i-preserved : goal.loop-i-preserved
loop-i-preserved c = let before = c.loop-i-test.true in let end = c.len-i-end.ensures in let long = c.args.drafts.now.ok.0 in
    one_grown c.args.plan.now c.loop-i.i c.args.drafts.now.items c.loop-i.drafts.items c.index_mut.result.now c.add_epoch.new.self c.loop-i.invariant
    (omega (arith, before, end, long))
    (subst (λ (x : LoopDraft). IsGrown c.args.plan.now x c.add_epoch.new.self) c.index_mut.ensures.value c.in_ok-add_epoch.ensures)

pub returns : goal.returns
returns c = let past = c.loop-i-test.false in let most = c.loop-i.auto.i-end in let end = c.len-i-end.ensures in let long = c.args.drafts.now.ok.0 in
    let all : c.loop-i.i ≡ length c.args.drafts.now.items = omega (arith, past, most, end, long) in
    subst (λ n. AreGrown c.args.plan.now n c.args.drafts.now.items c.loop-i.drafts.items) all c.loop-i.invariant
