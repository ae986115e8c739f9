use Rattle.std.proofs.Common.{◌≡◌, sym, subst}
use Rattle.std.specs.Prelude.{All}
use Rattle.pw_graph.specs.declared.pools.PoolShape.{PoolShape}
use Rattle.pw_graph.specs.Pools.{link_ids_from}
use Rattle.board_rule.proofs.PoolLinkLemmas.{pool_ids}
use Rattle.board_rule.proofs.layout.push_pools.Goals as goal

pub push_pool-requires : goal.push_pool-requires
push_pool-requires c = let links = c.args.shape.now.links in let x : PoolShape = c.pool-item.result in
    subst (λ (y : PoolShape). y.links ≡ link_ids_from links y.port) (sym c.pool-item.is)
    (subst (All (λ (y : PoolShape). y.links ≡ link_ids_from links y.port)) (sym c.requires.pools) (pool_ids c.args.shape.now)
    c.loop-pool.pool-index x c.loop-pool-test.true)
