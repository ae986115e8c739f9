-- The ends of links and the blocks that a board begins with.
-- Source: spa/node/io.h, spa_io_async_buffers; a block that begins published is this project's own.
use Rattle.std.specs.Prelude.{ℕ, ◌-◌, ◌&&◌, Bool, cond, eqb, List, ◌∷◌, replicate}
use Rattle.std.specs.List.{flat_map, list_any}
use Rattle.pw_graph.specs.declared.shape.Shape.{Shape}
use Rattle.pw_graph.specs.declared.shape.ShapeLink.{ShapeLink}
use Rattle.pw_graph.specs.declared.pools.PoolShape.{PoolShape}
use Rattle.pw_graph.specs.Pools.{links_from, pools_of}
use Rattle.pw_graph.specs.Words.{no_block}
use Rattle.board_rule.specs.declared.view.WriteView.{WriteView}
use Rattle.board_rule.specs.declared.view.ReadView.{ReadView}
use Rattle.board_rule.specs.declared.view.BlockView.{BlockView}
use Rattle.board_rule.specs.declared.view.BlockView.TheVariants.{Free, Out}

-- a writer's end of which nothing is written before the cycle c
abbrev pub unwritten : ℕ → WriteView
unwritten c = record { loaded = c; stored = c; id = no_block; last = no_block }

-- the writer's end of a link at the start: the area of a delayed link that is read in the first
-- cycle names block 0, as if it had been stored there in the cycle before
abbrev pub first_write : ℕ → ShapeLink → WriteView
first_write c k = record { loaded = c; stored = c; id = cond k.delayed 0 no_block; last = no_block }

-- a reader's end of which nothing is read before it
abbrev pub unread : ℕ → ReadView
unread c = record { loaded = c; lowered = c; stored = c; id = no_block }

-- a delayed link reads the pool
abbrev pub is_delayed : Shape → PoolShape → Bool
is_delayed shape x = list_any (λ k. k.delayed) (links_from shape x.port)

-- block 0 of such a pool is out at the start, as if it had been announced in the cycle before the
-- first; the others are free
abbrev pub first_block : Shape → PoolShape → ℕ → BlockView
first_block shape x b = cond (is_delayed shape x && eqb b 0) (Out shape.first) Free

abbrev pub blocks_at_first : Shape → PoolShape → List BlockView
blocks_at_first shape x = cond (is_delayed shape x)
    (Out shape.first ∷ replicate (x.blocks - 1) Free) (replicate x.blocks Free)

-- the blocks of all pools of a shape
abbrev pub first_blocks : Shape → List BlockView
first_blocks shape = flat_map (blocks_at_first shape) (pools_of shape)
