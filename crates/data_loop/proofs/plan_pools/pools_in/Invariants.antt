use Rattle.std.proofs.Common.{◌≡◌, take, map}
use Rattle.pw_graph.specs.Pools.{pools_of}
use Rattle.data_loop.proofs.plan_pools.pools_in.Given as goal

abbrev pub invariant-loop-epoch : goal.invariant-loop-epoch
invariant-loop-epoch l = l.pools ≡ map (λ e. pools_of e.shape) (take l.epoch-index l.epoch-items)
