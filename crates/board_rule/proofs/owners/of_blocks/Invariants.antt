use Rattle.std.proofs.Common.{◌≡◌, take, replicate}
use Rattle.std.specs.List.{flat_map}
use Rattle.pw_graph.specs.Pools.{pools_of}
use Rattle.board_rule.specs.Layout.{layout_of}
use Rattle.board_rule.specs.start.Owners.{seat_with}
use Rattle.board_rule.proofs.owners.of_blocks.Given as goal

abbrev pub invariant-loop-pool : goal.invariant-loop-pool
invariant-loop-pool l = l.row ≡ flat_map (λ x. replicate x.blocks (seat_with (layout_of l.board_shape) x.port.node))
    (take l.pool-index (pools_of l.board_shape.shape))
