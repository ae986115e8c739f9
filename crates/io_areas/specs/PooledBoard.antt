-- A board whose shape is sound, and all of whose links from one output port read the blocks of one
-- pool.
-- Source: PipeWire's documentation, "Graph Scheduling"; one pool an output port is this project's
-- own.
use Rattle.pw_graph.specs.Pools.{IsPooledShape}
use Rattle.board_rule.specs.Layout.{BoardLayout, IsSound}

pub record IsPooledBoard (p : BoardLayout) : Type 0 where
  pub sound : IsSound p
  pub pooled : IsPooledShape p.shape
