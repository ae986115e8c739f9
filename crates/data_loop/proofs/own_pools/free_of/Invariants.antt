use Rattle.std.proofs.Common.{◌≡◌, map, take}
use Rattle.io_areas.specs.FreeBlocks.{free_at_start}
use Rattle.data_loop.proofs.own_pools.free_of.Given as goal

abbrev pub invariant-loop-pool : goal.invariant-loop-pool
invariant-loop-pool l = l.free ≡ map (free_at_start l.shape) (take l.pool-index l.pools)
