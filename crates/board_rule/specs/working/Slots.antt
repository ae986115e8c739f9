-- The slots of a board, and what the loops' seats begin with.
-- Source: this project's own.
use Rattle.std.specs.Prelude.{◌≡◌, ℕ, ◌<◌, length, map, replicate, slice_index}
use Rattle.pw_graph.specs.Pools.{pools_of}
use Rattle.board_rule.specs.declared.slots.Slots.{Slots}
use Rattle.board_rule.specs.declared.owners.OwnerRows.{OwnerRows}
use Rattle.board_rule.specs.declared.starts.Starts.{Starts}
use Rattle.board_rule.specs.declared.view.View.{View}
use Rattle.board_rule.specs.Layout.{BoardLayout, nodes, first}
use Rattle.board_rule.specs.start.Owners.{owners_of, slot_in, AreSlots}
use Rattle.board_rule.specs.buffers.Spans.{block_at}
use Rattle.board_rule.specs.activation.SeatNodes.{Has}
use Rattle.board_rule.specs.buffers.EndViews.{writer_of, reader_of}
use Rattle.board_rule.specs.start.StartViews.{idle, unread, first_write, first_blocks}
use Rattle.board_rule.specs.working.Progress.{progress_of}

module _ (p : BoardLayout) where
  -- the writer's end of a link is the seat's own, and the reader's end
  abbrev pub HasWriter : View → ℕ → Type 0
  HasWriter v l = (l < length p.shape.links) × (l < length v.writes) × Has p v (writer_of p l)

  abbrev pub HasReader : View → ℕ → Type 0
  HasReader v l = (l < length p.shape.links) × (l < length v.reads) × Has p v (reader_of p l)

  pub record AreOwners (rows : OwnerRows) : Type 0 where
    pub nodes_are : rows.nodes ≡ (owners_of p).nodes
    pub writes_are : rows.writes ≡ (owners_of p).writes
    pub reads_are : rows.reads ≡ (owners_of p).reads
    pub blocks_are : rows.blocks ≡ (owners_of p).blocks

  -- of each node, of each link by its writer and by its reader, and of the first block of each pool
  pub record HasSlots (slots : Slots) : Type 0 where
    pub of_nodes : AreSlots (owners_of p).nodes slots.nodes.items
    pub of_writes : AreSlots (owners_of p).writes slots.writes.items
    pub of_reads : AreSlots (owners_of p).reads slots.reads.items
    pub pools : length slots.pools.items ≡ length (pools_of p.shape)
    pub of_pools : (q : ℕ) → q < length (pools_of p.shape)
        → slice_index slots.pools.items q ≡ slot_in (owners_of p).blocks (block_at p q 0)

  -- all entries as they are at the start
  pub record IsStart (starts : Starts) : Type 0 where
    pub owners : AreOwners starts.owners
    pub nodes_are : starts.nodes.items ≡ replicate (nodes p) (progress_of (idle (first p)))
    pub writes_are : starts.writes.items ≡ map (first_write (first p)) p.shape.links
    pub reads_are : starts.reads.items ≡ replicate (length p.shape.links) (unread (first p))
    pub blocks_are : starts.blocks ≡ first_blocks p.shape
