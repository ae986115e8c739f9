use Rattle.std.proofs.Common.{◌≡◌, take, map}
use Rattle.pw_graph.specs.Pools.{pool_of}
use Rattle.pw_graph.proofs.pooling.pools_of.Given as goal

abbrev pub invariant-loop-port : goal.invariant-loop-port
invariant-loop-port l = l.pools ≡ map (pool_of l.fn.shape) (take l.port-index l.port-items)
