-- The words of a board: where each is in the table of a shape, and what it holds at the start.
-- Source: spa/node/io.h, spa_io_buffers, and of a delayed link spa_io_async_buffers; else ours.
use Rattle.std.specs.Prelude.{ℕ, ◌+◌, ◌-◌, ◌*◌, ◌%◌, ◌==◌, List, [], ◌∷◌, ◌++◌, length, take, replicate, sum_by, count_by}
use Rattle.std.specs.Prelude.{unwrap_or, option_map, slice_get, if◌then◌else◌}
use Rattle.std.specs.List.{flat_map}
use Rattle.pw_graph.specs.declared.pools.PoolShape.{PoolShape}
use Rattle.pw_graph.specs.declared.shape.Shape.{Shape}
use Rattle.pw_graph.specs.declared.shape.ShapeLink.{ShapeLink}
use Rattle.pw_graph.specs.Pools.{pools_of, links_from}
use Rattle.pw_graph.specs.Words.{no_block, have_data_word, need_data_word, not_triggered_word}

-- nodes, io areas of one link and of links, and events of all cycles
abbrev pub node_count : Shape → ℕ
node_count shape = length shape.nodes

abbrev pub areas_of : ShapeLink → ℕ
areas_of link = if link.delayed then 2 else 1

abbrev pub area_count : List ShapeLink → ℕ
area_count links = sum_by areas_of links

abbrev pub event_count : Shape → ℕ
event_count shape = shape.cycles * (2 * node_count shape + 3)

-- the words of a pool: for each block a readers word and its sample words
abbrev pub pool_words : PoolShape → ℕ
pool_words pool = pool.blocks * (1 + pool.words)

-- WHERE EACH IS: nodes, links and pools by place, areas 0 and 1, cycles from the first
abbrev pub ticket_place : ℕ
ticket_place = 0

abbrev pub pending_place : Shape → ℕ → ℕ
pending_place shape node = 1 + node

abbrev pub status_place : Shape → ℕ → ℕ
status_place shape node = 1 + node_count shape + node

abbrev pub io_place : Shape → ℕ → ℕ → ℕ
io_place shape link area = 1 + 2 * node_count shape + area_count (take link shape.links) + area

abbrev pub late_place : Shape → ℕ → ℕ
late_place shape cycle = 1 + 2 * node_count shape + area_count shape.links + cycle

abbrev pub event_place : Shape → ℕ → ℕ
event_place shape ticket = late_place shape shape.cycles + ticket

-- the sample words of a block of a pool
abbrev pub block_words : Shape → ℕ → ℕ
block_words shape pool = unwrap_or (option_map (λ p. p.words) (slice_get (pools_of shape) pool)) 0

abbrev pub readers_place : Shape → ℕ → ℕ → ℕ
readers_place shape pool block = event_place shape (event_count shape) + sum_by pool_words
    (take pool (pools_of shape)) + block * (1 + block_words shape pool)

abbrev pub sample_place : Shape → ℕ → ℕ → ℕ → ℕ
sample_place shape pool block word = readers_place shape pool block + 1 + word

-- how many there are
abbrev pub word_count : Shape → ℕ
word_count shape = event_place shape (event_count shape) + sum_by pool_words (pools_of shape)

-- AT THE START: area 0 first; of a delayed link the area that is read first names block 0
abbrev pub io_start : ℕ → ShapeLink → List ℕ
io_start first link =
    if link.delayed then (if first % 2 == 0 then have_data_word 0 ∷ need_data_word no_block ∷ []
    else need_data_word no_block ∷ have_data_word 0 ∷ [])
    else need_data_word no_block ∷ []

-- block 0 begins out, read by the pool's delayed links
abbrev pub pool_start : Shape → PoolShape → List ℕ
pool_start shape pool = count_by (λ l. l.delayed) (links_from shape pool.port)
    ∷ replicate (pool_words pool - 1) 0

abbrev pub start_words : Shape → List ℕ
start_words shape = 0 ∷ (replicate (node_count shape) 0
    ++ (replicate (node_count shape) (not_triggered_word shape.first)
    ++ (flat_map (io_start shape.first) shape.links ++
    (replicate (shape.cycles + event_count shape) 0
    ++ flat_map (pool_start shape) (pools_of shape)))))
