use Rattle.std.proofs.Common.{◌≡◌, ◌∙◌, ◌+◌, ◌==◌, ◌<◌, ◌≤◌, List, Some, length, max, get_or, slice_get, find, option_map, unwrap_or, rules, sym, ap, subst}
use Rattle.std.proofs.lemmas.Option.{slice_get-get_or}
use Rattle.pw_graph.specs.declared.plan.Epoch.{Epoch}
use Rattle.pw_graph.specs.declared.plan.Fresh.{Fresh}
use Rattle.cycle_model.specs.Epochs.{listed}
use Rattle.node_progress.specs.Restarts.{restart_of}
use Rattle.node_progress.proofs.PrepareLemmas.{IsMostBefore, none_before, most_more, most_of_all}
use Rattle.node_progress.proofs.preparing.most_channels.Goals as goal

pub loop-epoch-init : goal.loop-epoch-init
loop-epoch-init c = none_before c.args.plan.now c.args.node

pub loop-epoch-preserved : goal.loop-epoch-preserved
loop-epoch-preserved c = let plan = c.args.plan.now in let es = plan.epochs in let i = c.loop-epoch.epoch-index in let n = c.args.node in
    let e : Epoch = c.epoch-item.result in
    let low : i < length es = subst (λ (l : List Epoch). i < length l) c.as_slice-epoch-items.ensures c.loop-epoch-test.true in
    let is : e ≡ get_or es i e = c.epoch-item.is ∙ ap (λ (l : List Epoch). get_or l i e) c.as_slice-epoch-items.ensures in
    let at : slice_get es i ≡ Some e = slice_get-get_or es i e low ∙ ap Some (sym is) in
    let own : c.fresh_in.result ≡ restart_of plan i n = c.fresh_in.ensures
    ∙ sym (ap (λ o. option_map (λ (f : Fresh). f.channels) (find (λ f. f.node == n) (listed (λ x. x.fresh) o))) at) in
    let more : c.max-most.result ≡ max c.loop-epoch.most c.unwrap_or.result = search rules in
    subst (IsMostBefore plan (i + 1) n)
    (sym (more ∙ ap (max c.loop-epoch.most) (c.unwrap_or.ensures ∙ ap (λ o. unwrap_or o 0) own)))
    (most_more plan c.requires i n c.loop-epoch.most c.loop-epoch.invariant)

pub returns : goal.returns
returns c = let es = c.args.plan.now.epochs in
    most_of_all c.args.plan.now c.loop-epoch.epoch-index c.args.node c.loop-epoch.most
    (subst (λ (l : List Epoch). length l ≤ c.loop-epoch.epoch-index) c.as_slice-epoch-items.ensures c.loop-epoch-test.false)
    c.loop-epoch.invariant
