-- The buffer rule: areas, blocks and readers words against what the seats know of the ends of links
-- and of blocks.
-- Source: PipeWire's documentation, "SPA Buffers"; one pool that all links of a port read is this
-- project's own.
use Rattle.std.specs.Prelude.{◌≡◌, ℕ, ◌+◌, ◌<◌, ◌≤◌, true, List, Some, Contains, slice_get, slice_index}
use Rattle.pw_graph.specs.declared.shape.ShapeLink.{ShapeLink}
use Rattle.pw_graph.specs.declared.pools.PoolShape.{PoolShape}
use Rattle.pw_graph.specs.Layout.{io_place, readers_place, sample_place}
use Rattle.pw_graph.specs.Pools.{pools_of}
use Rattle.board_rule.specs.declared.view.WriteView.{WriteView}
use Rattle.board_rule.specs.declared.view.ReadView.{ReadView}
use Rattle.board_rule.specs.declared.view.BlockView.{BlockView}
use Rattle.board_rule.specs.Layout.{BoardLayout, first}
use Rattle.board_rule.specs.start.StartViews.{Samples}
use Rattle.board_rule.specs.buffers.SampleWords.{packed, samples_of}
use Rattle.board_rule.specs.buffers.Areas.{Span, LinkOk}
pub use Rattle.board_rule.specs.buffers.NamedBlocks.{NamesBlocks, Reclaims}
use Rattle.board_rule.specs.buffers.BlockReadings.{Ends, is_busy, stamp, filled, delay_at, busy_cycles, readers_of}

module _ (p : BoardLayout) where
  -- A BLOCK b of the pool x, whose number is q. `low` and `high`: from its filling until its writer
  -- finds all readers gone
  pub record BlockOk (q b : ℕ) (x : PoolShape) (filler : Span) (reads : ℕ → ReadView)
      (e : Samples) (block : BlockView)
      (words : List ℕ) : Type 0 where
    pub low : is_busy block ≡ true → filler.ended < stamp filler.ended block + busy_cycles p x
    pub high : is_busy block ≡ true → stamp filler.ended block ≤ filler.begun
    pub full : filled x.words block ≤ x.words
    pub readers : slice_index words (readers_place p.shape q b) ≡ readers_of p reads x block
    pub samples : (i : ℕ) → i < filled x.words block
        → slice_index words (sample_place p.shape q b i)
        ≡ packed (samples_of p e (stamp filler.ended block) q) i

  -- A POOL x. `named`: what each of its links names. `apart` and `near`: busy blocks have stamps
  -- that differ, by less than its busy cycles
  pub record PoolOk (x : PoolShape) (filler : Span) (reclaimed : ℕ) (writes : ℕ → WriteView)
      (blocks : ℕ → BlockView)
      : Type 0 where
    pub reclaims : Reclaims p x reclaimed writes blocks
    pub named : (l : ℕ) → Contains x.links l
        → NamesBlocks p x (delay_at p l) reclaimed (writes l) blocks
    pub apart : (a b : ℕ) → a < x.blocks → b < x.blocks → is_busy (blocks a) ≡ true
        → is_busy (blocks b) ≡ true
        → stamp filler.ended (blocks a) ≡ stamp filler.ended (blocks b) → a ≡ b
    pub near : (a b : ℕ) → a < x.blocks → b < x.blocks → is_busy (blocks a) ≡ true
        → is_busy (blocks b) ≡ true
        → stamp filler.ended (blocks a) < stamp filler.ended (blocks b) + busy_cycles p x

  -- BUFFER RULE: each link of each pool, each block and each pool, where `spans` has what each
  -- index has done
  pub record Buffers (spans : ℕ → Span) (ends : Ends) (e : Samples)
      (words : List ℕ) : Type 0 where
    pub links : (q l : ℕ) (x : PoolShape) (k : ShapeLink)
        → slice_get (pools_of p.shape) q ≡ Some x → Contains x.links l
        → slice_get p.shape.links l ≡ Some k
        → LinkOk (first p) x.blocks k (spans (p.index k.from.node))
        (spans (p.index k.to.node)) (ends.writes l) (ends.reads l)
        (λ a. slice_index words (io_place p.shape l a))
    pub blocks : (q b : ℕ) (x : PoolShape) → slice_get (pools_of p.shape) q ≡ Some x
        → b < x.blocks
        → BlockOk q b x (spans (p.index x.port.node)) ends.reads e (ends.blocks q b) words
    pub pools : (q : ℕ) (x : PoolShape) → slice_get (pools_of p.shape) q ≡ Some x
        → PoolOk x (spans (p.index x.port.node)) (ends.reclaimed q) ends.writes (ends.blocks q)
