use Rattle.std.proofs.Common.{◌≤◌, ◌∙◌, List, length, sym, ap, subst, arith}
use Rattle.std.specs.Prelude.{All}
use Rattle.std.proofs.lemmas.List.Elements.{All-filter}
use Rattle.pw_graph.specs.declared.pools.PoolShape.{PoolShape}
use Rattle.data_loop.specs.OwnPools.{is_own}
use Rattle.data_loop.proofs.OwnPoolsLemmas.{few_all}
use Rattle.data_loop.proofs.own_pools.pools_among.Goals as goal

pub overflow_cast-count : goal.overflow_cast-count
overflow_cast-count c = let all = few_all c.args.nodes.now c.args.pools.now in let few = c.requires.few in
    let own = ap (λ (l : List PoolShape). length l) c.in_ok-shapes.ensures in let is = c.len-count.ensures in
    record { fits = omega (arith, all, few, own, is) }

pub free_of-requires : goal.free_of-requires
free_of-requires c = subst (All (λ (x : PoolShape). (1 ≤ x.blocks) × (x.blocks ≤ 8))) (sym (c.as_slice.ensures ∙ c.in_ok-shapes.ensures))
    (All-filter (is_own c.args.nodes.now) (λ (x : PoolShape). (1 ≤ x.blocks) × (x.blocks ≤ 8)) c.args.pools.now c.requires.pools)
