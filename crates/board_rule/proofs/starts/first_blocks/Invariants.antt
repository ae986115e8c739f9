use Rattle.std.proofs.Common.{◌≡◌, take}
use Rattle.std.specs.List.{flat_map}
use Rattle.pw_graph.specs.Pools.{pools_of}
use Rattle.board_rule.specs.View.{blocks_at_first}
use Rattle.board_rule.proofs.starts.first_blocks.Given as goal

abbrev pub invariant-loop-pool : goal.invariant-loop-pool
invariant-loop-pool l = l.blocks ≡ flat_map (blocks_at_first l.shape) (take l.pool-index (pools_of l.shape))
