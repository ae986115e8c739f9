use Rattle.std.proofs.Common.{◌≡◌, sym, subst}
use Rattle.std.specs.Prelude.{All}
use Rattle.pw_graph.specs.declared.pools.PoolShape.{PoolShape}
use Rattle.pw_graph.specs.Pools.{link_ids_from}
use Rattle.board_rule.proofs.PoolLinkLemmas.{pool_ids}
use Rattle.board_rule.proofs.starts.first_blocks.Goals as goal

pub push_blocks-requires : goal.push_blocks-requires
push_blocks-requires c = let links = c.args.shape.now.links in let x : PoolShape = c.pool-item.result in
    subst (λ (y : PoolShape). y.links ≡ link_ids_from links y.port) (sym c.pool-item.is)
    (subst (All (λ (y : PoolShape). y.links ≡ link_ids_from links y.port)) (sym c.requires) (pool_ids c.args.shape.now)
    c.loop-pool.pool-index x c.loop-pool-test.true)
