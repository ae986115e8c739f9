-- The pools of each epoch of a plan.
-- Source: PipeWire's documentation, "SPA Buffers"; one pool an output port is this project's own.
use Rattle.std.specs.Prelude.{List, map}
use Rattle.pw_graph.specs.declared.plan.Plan.{Plan}
use Rattle.pw_graph.specs.declared.pools.PoolShape.{PoolShape}
use Rattle.pw_graph.specs.Pools.{pools_of}

-- the pools of each epoch's shape, in the order of the epochs
abbrev pub pools_in : Plan → List (List PoolShape)
pools_in plan = map (λ e. pools_of e.shape) plan.epochs
