-- What the steps of a board read of its shape, in rows by index.
-- Source: this project's own.
use Rattle.std.specs.Prelude.{◌≡◌, ℕ, ◌+◌, ◌^◌, ◌<◌, ◌≤◌, List, map, take, sum_by, length, slice_index, slice_index_or}
use Rattle.std.specs.List.{position_or_len}
use Rattle.pw_graph.specs.declared.shape.Shape.{Shape}
use Rattle.pw_graph.specs.declared.shape.ShapeLink.{ShapeLink}
use Rattle.pw_graph.specs.declared.pools.PoolShape.{PoolShape}
use Rattle.pw_graph.specs.Layout.{area_count, io_place, event_place, event_count, pool_words, readers_place}
use Rattle.pw_graph.specs.Pools.{is_same_port, pools_of}
use Rattle.board_rule.specs.declared.rows.Rows.{Rows}
use Rattle.board_rule.specs.declared.rows.LinkRow.{LinkRow}
use Rattle.board_rule.specs.declared.rows.PoolRow.{PoolRow}
use Rattle.board_rule.specs.Layout.{index_in, required_row, target_rows, word_count}
use Rattle.board_rule.specs.buffers.Areas.{delay_by}
use Rattle.board_rule.specs.buffers.EndViews.{link_in, pool_in, pool_number}

-- where the words of a pool begin
abbrev pub base_of : Shape → ℕ → ℕ
base_of shape q = event_place shape (event_count shape) + sum_by pool_words
    (take q (pools_of shape))

-- a link whose area is at an index: its nodes by index, its pool, where the words of that pool
-- begin, and how many each block has
pub record IsLinkRow (shape : Shape) (link : ShapeLink) (area : ℕ) (row : LinkRow) : Type 0 where
  pub writer : row.writer ≡ index_in shape link.from.node
  pub reader : row.reader ≡ index_in shape link.to.node
  pub pool : row.pool ≡ position_or_len (λ x. is_same_port x.port link.from) (pools_of shape)
  pub area_is : row.area ≡ area
  pub delayed : row.delayed ≡ link.delayed
  pub base : row.base ≡ base_of shape row.pool
  pub stride : row.stride ≡ 1 + (pool_in shape row.pool).words

pub record HasLinkRows (shape : Shape) (rows : List LinkRow) : Type 0 where
  pub count : length rows ≡ length shape.links
  pub each : (l : ℕ) (d : LinkRow) → l < length shape.links
      → IsLinkRow shape (link_in shape l) (io_place shape l 0) (slice_index_or rows l d)

-- a pool whose first block has an index in a view, and whose words are stored from `base` on: its
-- node by index, its blocks, words and readers
pub record IsPoolRow (shape : Shape) (pool : PoolShape) (first base : ℕ)
    (row : PoolRow) : Type 0 where
  pub filler : row.filler ≡ index_in shape pool.port.node
  pub node : row.node ≡ pool.port.node
  pub blocks : row.blocks ≡ pool.blocks
  pub words : row.words ≡ pool.words
  pub readers : row.readers ≡ length pool.links
  pub first_is : row.first ≡ first
  pub base_is : row.base ≡ base

pub record HasPoolRows (shape : Shape) (rows : List PoolRow) : Type 0 where
  pub count : length rows ≡ length (pools_of shape)
  pub each : (q : ℕ) (d : PoolRow) → q < length (pools_of shape)
      → IsPoolRow shape (pool_in shape q) (sum_by (λ x. x.blocks) (take q (pools_of shape)))
      (base_of shape q)
      (slice_index_or rows q d)

-- the rows are those of the shape; `indexes` has an entry for each number below 64
pub record HasRows (shape : Shape) (rows : Rows) : Type 0 where
  pub driver : rows.driver ≡ index_in shape shape.driver
  pub areas : rows.areas ≡ area_count shape.links
  pub indexes : (n : ℕ) → n < 64 → slice_index rows.indexes n ≡ index_in shape n
  pub required : rows.required.items ≡ required_row shape
  pub targets : map (λ v. v.items) rows.targets.items ≡ target_rows shape
  pub links : HasLinkRows shape rows.links.items
  pub pools : HasPoolRows shape rows.pools.items

-- each link has a pool, the words of areas and blocks are words of the board, a block has some of
-- them and not many, and there are not many pools
pub record HasIndexes (shape : Shape) : Type 0 where
  pub pools : (l : ℕ) → l < length shape.links → pool_number shape l < length (pools_of shape)
  pub areas : (l a : ℕ) → l < length shape.links → a ≤ delay_by (link_in shape l)
      → io_place shape l a < word_count shape
  pub blocks : (q b : ℕ) → q < length (pools_of shape) → b < (pool_in shape q).blocks
      → readers_place shape q b + (pool_in shape q).words < word_count shape
  pub some : (q : ℕ) → q < length (pools_of shape)
      → (0 < (pool_in shape q).words) × (0 < (pool_in shape q).blocks)
  pub few : (q : ℕ) → q < length (pools_of shape) → (pool_in shape q).words < 2 ^ 32
  pub count : length (pools_of shape) < 2 ^ 32
