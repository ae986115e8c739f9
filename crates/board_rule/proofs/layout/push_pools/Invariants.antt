use Rattle.std.proofs.Common.{◌≡◌, ◌++◌, take}
use Rattle.std.specs.List.{flat_map}
use Rattle.pw_graph.specs.Layout.{pool_start}
use Rattle.pw_graph.specs.Pools.{pools_of}
use Rattle.board_rule.proofs.layout.push_pools.Given as goal

abbrev pub invariant-loop-pool : goal.invariant-loop-pool
invariant-loop-pool l = l.words ≡ l.fn.words ++ flat_map (pool_start l.shape) (take l.pool-index (pools_of l.shape))
