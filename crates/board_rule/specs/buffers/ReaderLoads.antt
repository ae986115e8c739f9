-- A node that reads loads an area: what that asks of the view of its seat, what it finds, and the
-- view after it. Links are given by number; `is_driver` is true for the driver's seat.
-- Source: PipeWire's documentation, "SPA Buffers"; spa/node/io.h, spa_io_buffers.
use Rattle.std.specs.Prelude.{◌≡◌, ℕ, ◌+◌, ◌-◌, ◌<◌, Bool, length, Option, slice_index, slice_set as set}
use mathlib.Core.Option.{some}
use lib.ListN.{get_elem?}
use Rattle.atomic_table.specs.Table.{State}
use Rattle.pw_graph.specs.Words.{io_id_in, have_data_word}
use Rattle.board_rule.specs.declared.view.BlockView.TheVariants.{Out}
use Rattle.board_rule.specs.declared.view.View.{View}
use Rattle.board_rule.specs.BoardRule.{Holds}
use Rattle.board_rule.specs.Layout.{BoardLayout, first}
use Rattle.board_rule.specs.buffers.Areas.{area_of}
use Rattle.board_rule.specs.buffers.BlockReadings.{delay_at}
use Rattle.board_rule.specs.buffers.EndViews.{read_of, view_read, link_at, pool_at, reader_of, pool_of}
use Rattle.board_rule.specs.activation.SeatNodes.{cycle_of, HasNode}
use Rattle.board_rule.specs.activation.WorkSteps.{IsRunning}

-- how many sample words of the block that it took last a link's reader has loaded
abbrev pub words_read_of : View → ℕ → ℕ
words_read_of v l = slice_index v.words_read l

module _ (is_driver : Bool) (p : BoardLayout) where
  -- the cycle that the link's reader is in
  abbrev pub read_cycle : View → ℕ → ℕ
  read_cycle v l = cycle_of is_driver v (reader_of p l)

  -- the link's reader is a node of the seat, and works
  abbrev pub IsReader : View → ℕ → Type 0
  IsReader v l = (l < length p.shape.links) × (l < length v.reads)
      × HasNode is_driver p v (reader_of p l)
      × IsRunning is_driver v (reader_of p l) × (l < length v.words_read)

  -- the area that it uses in this cycle
  abbrev pub read_area : View → ℕ → ℕ
  read_area v l = area_of (link_at p l) (read_cycle v l)

  -- LOADING AN AREA AS READER: not yet done in this cycle. It has data, with the number of a block
  -- of the link's pool
  abbrev pub LoadsAsReader : View → ℕ → Type 0
  LoadsAsReader v l = IsReader v l × ((read_of v l).loaded ≡ read_cycle v l)

  abbrev pub loaded_as_reader : View → ℕ → ℕ → View
  loaded_as_reader v l found = record (view_read v l (record (read_of v l)
      { loaded = read_cycle v l + 1; id = io_id_in found })) { words_read = set v.words_read l 0 }

  -- the stamp of the block whose reading cycle over the link this cycle is
  abbrev pub stamp_read : View → ℕ → ℕ
  stamp_read v l = read_cycle v l + 1 - delay_at p l

  -- it is that block: in a state of the board in which the seat knew this, it was out with that
  -- stamp
  abbrev pub IsOfThisCycle : View → ℕ → ℕ → Type 0
  IsOfThisCycle v l id = (s : State (Option ℕ) View) × (h : Holds p s)
      × ((i : ℕ) × (get_elem? s.views i ≡ some v))
      × (h.whole.ends.blocks (pool_of p l) id ≡ Out (stamp_read v l))

  -- over a delayed link the block of the first cycle is number 0
  abbrev pub IsZeroAtFirst : View → ℕ → ℕ → Type 0
  IsZeroAtFirst v l id = delay_at p l ≡ 1 → read_cycle v l ≡ first p → id ≡ 0

  abbrev pub IsPublished : View → ℕ → ℕ → Type 0
  IsPublished v l found = (found ≡ have_data_word (io_id_in found))
      × (io_id_in found < (pool_at p (pool_of p l)).blocks)
      × IsZeroAtFirst v l (io_id_in found) × IsOfThisCycle v l (io_id_in found)
