-- Pools: the output ports of a shape that have a link, each with the blocks that hold what it gives
-- in a cycle.
-- Source: PipeWire's documentation, "SPA Buffers": the buffers of a port are shared by number; one
-- pool an output port is this project's.
use Rattle.std.specs.Prelude.{◌≡◌, ℕ, ◌+◌, ◌*◌, ◌/◌, ◌==◌, ◌&&◌, ◌||◌, max, Bool, List, [], ◌∷◌, ◌++◌, map, filter}
use Rattle.std.specs.Prelude.{fold, AllPairs, nat_lt, if◌then◌else◌}
use Rattle.std.specs.List.{enumerate_from}
use Rattle.pw_graph.specs.declared.ids.PortId.{PortId}
use Rattle.pw_graph.specs.declared.shape.Shape.{Shape}
use Rattle.pw_graph.specs.declared.shape.ShapeLink.{ShapeLink}
use Rattle.pw_graph.specs.declared.pools.PoolShape.{PoolShape}
use Rattle.pw_graph.specs.SoundShape.{IsSoundShape}

abbrev pub is_same_port : PortId → PortId → Bool
is_same_port p q = (p.node == q.node) && (p.port == q.port)

-- ports are ordered by node, then by port
abbrev pub is_before : PortId → PortId → Bool
is_before p q = nat_lt p.node q.node || ((p.node == q.node) && nat_lt p.port q.port)

-- the ports before it, it, and those after it
abbrev pub with_port : List PortId → PortId → List PortId
with_port ports p = filter (λ q. is_before q p) ports ++ (p ∷ filter (λ q. is_before p q) ports)

-- the output ports that have a link, once each, ascending
abbrev pub sources_of : Shape → List PortId
sources_of shape = fold (λ ports l. with_port ports l.from) [] shape.links

-- the links from a port, and their numbers
abbrev pub links_from : Shape → PortId → List ShapeLink
links_from shape port = filter (λ l. is_same_port l.from port) shape.links

abbrev pub link_ids_from : List ShapeLink → PortId → List ℕ
link_ids_from links port = map (λ e. e.0)
    (filter (λ e. is_same_port e.1.from port) (enumerate_from 0 links))

-- the blocks that a link asks for: its buffers, and at least 2 where it is delayed
abbrev pub asked : ShapeLink → ℕ
asked link = if link.delayed then max 2 link.buffers else link.buffers

-- the blocks of the pool of a port: the most that one of its links asks for
abbrev pub blocks_of : Shape → PortId → ℕ
blocks_of shape port = fold (λ top l. max top (asked l)) 0 (links_from shape port)

-- the channels of a port, which all its links have
abbrev pub channels_of : Shape → PortId → ℕ
channels_of shape port = fold (λ top l. max top l.channels) 0 (links_from shape port)

-- the words of a block: four samples a word
abbrev pub words_of : Shape → PortId → ℕ
words_of shape port = (shape.quantum * channels_of shape port + 3) / 4

abbrev pub pool_of : Shape → PortId → PoolShape
pool_of shape port = record {
  port = port;
  channels = channels_of shape port;
  blocks = blocks_of shape port;
  words = words_of shape port;
  links = link_ids_from shape.links port;
}

-- THE POOLS of a shape, ascending by node and port, numbered from 0
abbrev pub pools_of : Shape → List PoolShape
pools_of shape = map (pool_of shape) (sources_of shape)

-- two links from one port have the same channels
abbrev pub AreAlike : ShapeLink → ShapeLink → Type 0
AreAlike k l = k.from ≡ l.from → k.channels ≡ l.channels

-- POOLED SHAPE: sound, and all links from one output port have the same number of channels
pub record IsPooledShape (shape : Shape) : Type 0 where
  pub sound : IsSoundShape shape
  pub alike : AllPairs AreAlike shape.links
