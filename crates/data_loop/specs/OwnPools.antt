-- The pools that the nodes of a loop fill, among those of an epoch.
-- Source: PipeWire's documentation, "SPA Buffers"; one pool an output port, and which loop has a
-- node, is this project's own.
use Rattle.std.specs.Prelude.{◌≡◌, ℕ, ◌<◌, ◌==◌, Bool, if◌then◌else◌, List, [], length, map, filter, take, slice_index, slice_index_or}
use Rattle.std.specs.List.{list_any, enumerate_from}
use Rattle.pw_graph.specs.declared.pools.PoolShape.{PoolShape}
use Rattle.pw_graph.specs.declared.shape.Shape.{Shape}
use Rattle.io_areas.specs.Queue.{Queue}
use Rattle.io_areas.specs.FreeBlocks.{free_at_start}
use Rattle.data_loop.specs.declared.own_pools.OwnPools.{OwnPools}

abbrev pub is_among : List ℕ → ℕ → Bool
is_among nodes n = list_any (λ m. m == n) nodes

-- one of the nodes fills the pool
abbrev pub is_own : List ℕ → PoolShape → Bool
is_own nodes x = is_among nodes x.port.node

abbrev pub own_pools : List ℕ → List PoolShape → List PoolShape
own_pools nodes pools = filter (is_own nodes) pools

-- the place of a pool among the own ones; of another the number of these, which is past their end
abbrev pub own_place : List ℕ → List PoolShape → ℕ × PoolShape → ℕ
own_place nodes pools e = if is_own nodes e.1 then length (own_pools nodes (take e.0 pools))
    else length (own_pools nodes pools)

abbrev pub own_places : List ℕ → List PoolShape → List ℕ
own_places nodes pools = map (own_place nodes pools) (enumerate_from 0 pools)

-- BEFORE THE FIRST CYCLE of an epoch: the pools of these nodes, with their free blocks
pub record AreFirstPools (shape : Shape) (nodes : List ℕ) (pools : List PoolShape)
    (own : OwnPools) : Type 0 where
  pub places : own.places ≡ own_places nodes pools
  pub shapes : own.shapes ≡ own_pools nodes pools
  pub free : own.free.items ≡ map (free_at_start shape) own.shapes

-- where the pool q is among the own ones, and its free blocks; none of another's
abbrev pub place_of : OwnPools → ℕ → ℕ
place_of own q = slice_index own.places q

abbrev pub queue_of : OwnPools → ℕ → Queue
queue_of own q = slice_index_or own.free.items (place_of own q) (record { free = []; blocks = 0 })

abbrev pub Owns : OwnPools → ℕ → Type 0
Owns own q = place_of own q < length own.shapes

-- only what is free of them is another
pub record AreSamePools (old new : OwnPools) : Type 0 where
  pub places : new.places ≡ old.places
  pub shapes : new.shapes ≡ old.shapes
  pub free : length new.free.items ≡ length old.free.items
