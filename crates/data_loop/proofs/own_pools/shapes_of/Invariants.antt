use Rattle.std.proofs.Common.{◌≡◌, take}
use Rattle.data_loop.specs.OwnPools.{own_pools}
use Rattle.data_loop.proofs.own_pools.shapes_of.Given as goal

abbrev pub invariant-loop-pool : goal.invariant-loop-pool
invariant-loop-pool l = l.shapes ≡ own_pools l.nodes (take l.pool-index l.pools)
