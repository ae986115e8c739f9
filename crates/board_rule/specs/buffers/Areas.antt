-- The two ends of a link and its io areas, by stamps: each end counts the cycles in which it has
-- done a thing, so that nothing is reset between cycles.
-- Source: spa/node/io.h, spa_io_buffers and spa_io_async_buffers; the stamps are this project's
-- own.
use Rattle.std.specs.Prelude.{◌≡◌, ℕ, ◌+◌, ◌%◌, ◌<◌, ◌≤◌, cond, eqb}
use Rattle.pw_graph.specs.declared.shape.ShapeLink.{ShapeLink}
use Rattle.pw_graph.specs.Words.{no_block, have_data_word, need_data_word}
use Rattle.board_rule.specs.declared.view.WriteView.{WriteView}
use Rattle.board_rule.specs.declared.view.ReadView.{ReadView}

-- 1 where the reader is one cycle late
abbrev pub delay_by : ShapeLink → ℕ
delay_by k = cond k.delayed 1 0

-- READING CYCLE: in which the reader of a link has a block that was announced in a cycle
abbrev pub reading_cycle : ShapeLink → ℕ → ℕ
reading_cycle k cycle = cycle + delay_by k

-- the area that has the block of a stamp, which is one more than the cycle in which the block was
-- announced
abbrev pub area_of : ShapeLink → ℕ → ℕ
area_of k n = cond k.delayed (n % 2) 0

-- the block that was stored last, and for a delayed link the one before it
abbrev pub stored_id : WriteView → ℕ → ℕ
stored_id w a = cond (eqb a 0) w.id w.last

-- the cycles, from the first, in which a node has stored FINISHED, and those in which it has stored
-- its Start
pub record Span : Type 0 where
  pub ended : ℕ
  pub begun : ℕ

-- A LINK, whose pool has `blocks` blocks, in an epoch that begins with the cycle `first`.
-- `writer_turn`, `reader_turn`: a turn is inside the node's Running. Of the stores `a` ago, 0 or 1,
-- `have` and `need` say what the area holds, and `unnamed` and `named` whether a block was ever
-- stored there. `found`: in its turn the reader has the block that its area names
pub record LinkOk (first blocks : ℕ) (k : ShapeLink) (writer reader : Span) (w : WriteView)
    (r : ReadView)
    (area : ℕ → ℕ) : Type 0 where
  pub writer_turn : (writer.ended ≤ w.stored) × (w.stored ≤ w.loaded)
      × (w.loaded ≤ writer.begun)
  pub reader_turn : (reader.ended ≤ r.stored) × (r.stored ≤ r.lowered)
      × (r.lowered ≤ r.loaded)
      × (r.loaded ≤ reader.begun)
  pub later : (first ≤ w.stored) × (first ≤ r.stored)
  pub have : (a : ℕ) → a ≤ delay_by k → r.stored + a < w.stored + delay_by k
      → area (area_of k (w.stored + a)) ≡ have_data_word (stored_id w a)
  pub need : (a : ℕ) → a ≤ delay_by k → w.stored + delay_by k ≤ r.stored + a
      → area (area_of k (w.stored + a)) ≡ need_data_word (stored_id w a)
  pub unnamed : (a : ℕ) → a ≤ delay_by k → w.stored + delay_by k ≤ first + a
      → stored_id w a ≡ no_block
  pub named : (a : ℕ) → a ≤ delay_by k → first + a < w.stored + delay_by k
      → stored_id w a < blocks
  pub found : (a : ℕ) → a ≤ delay_by k → r.stored < r.loaded
      → w.stored + delay_by k ≡ r.loaded + a → r.id ≡ stored_id w a
