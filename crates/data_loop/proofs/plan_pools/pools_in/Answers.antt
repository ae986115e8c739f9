use Rattle.std.proofs.Common.{◌∙◌, ◌<◌, List, length, get_or, sym, ap, subst}
use Rattle.pw_graph.specs.declared.plan.Epoch.{Epoch}
use Rattle.pw_graph.specs.Pools.{IsPooledShape}
use Rattle.data_loop.proofs.plan_pools.pools_in.Goals as goal

pub pools_of-requires : goal.pools_of-requires
pools_of-requires c = let es = c.args.plan.now.epochs in let i = c.loop-epoch.epoch-index in let e : Epoch = c.epoch-item.result in
    let low : i < length es = subst (λ (l : List Epoch). i < length l) c.as_slice-epoch-items.ensures c.loop-epoch-test.true in
    subst (λ (x : Epoch). IsPooledShape x.shape)
    (sym (c.epoch-item.is ∙ ap (λ (l : List Epoch). get_or l i e) c.as_slice-epoch-items.ensures))
    (c.requires.epochs i e low).shape
