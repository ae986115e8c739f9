-- The steps of the node that writes on the areas of its links: what each asks of the view of its
-- seat, and the view after it. Links are given by number.
-- Source: PipeWire's documentation, "SPA Buffers"; spa/node/io.h, spa_io_buffers; the words of
-- pools are this project's own.
use Rattle.std.specs.Prelude.{◌≡◌, ℕ, ◌+◌, ◌<◌, false, length}
use Rattle.pw_graph.specs.Words.{no_block}
use Rattle.board_rule.specs.declared.view.BlockView.TheVariants.{Out}
use Rattle.board_rule.specs.declared.view.View.{View}
use Rattle.board_rule.specs.Layout.{BoardLayout, first}
use Rattle.board_rule.specs.buffers.Areas.{area_of, stored_id}
use Rattle.board_rule.specs.buffers.BlockReadings.{delay_at}
use Rattle.board_rule.specs.buffers.EndViews.{write_of, view_write, link_at, pool_at, writer_of, pool_of, block_of}
use Rattle.board_rule.specs.activation.SeatNodes.{cycle_of, HasNode}
use Rattle.board_rule.specs.activation.WorkSteps.{IsRunning}

module _ (p : BoardLayout) where
  -- the cycle that a link's writer is in
  abbrev pub write_cycle : View → ℕ → ℕ
  write_cycle v l = cycle_of false v (writer_of p l)

  -- the link's writer is a node of the seat, and works
  abbrev pub IsWriter : View → ℕ → Type 0
  IsWriter v l = (l < length p.shape.links) × (l < length v.writes)
      × HasNode false p v (writer_of p l)
      × IsRunning false v (writer_of p l)

  -- the area that it uses in this cycle
  abbrev pub write_area : View → ℕ → ℕ
  write_area v l = area_of (link_at p l) (write_cycle v l + 1)

  -- LOADING AN AREA AS WRITER: not yet done in this cycle. It asks for data, and gives the number
  -- back that the writer stored there last: none exactly in the first cycle
  abbrev pub LoadsAsWriter : View → ℕ → Type 0
  LoadsAsWriter v l = IsWriter v l × ((write_of v l).loaded ≡ write_cycle v l)

  abbrev pub loaded_as_writer : View → ℕ → View
  loaded_as_writer v l = view_write v l (record (write_of v l) { loaded = write_cycle v l + 1 })

  abbrev pub IsGivenBack : View → ℕ → ℕ → Type 0
  IsGivenBack v l id = (id ≡ stored_id (write_of v l) (delay_at p l))
      × (write_cycle v l ≡ first p → id ≡ no_block)
      × (first p < write_cycle v l → id < (pool_at p (pool_of p l)).blocks)

  -- STORING HAVE_DATA: the writer's turn, with the number of the block that was announced in this
  -- cycle
  abbrev pub StoresHave : View → ℕ → ℕ → Type 0
  StoresHave v l id = IsWriter v l × ((write_of v l).loaded ≡ write_cycle v l + 1)
      × ((write_of v l).stored ≡ write_cycle v l) × (id < (pool_at p (pool_of p l)).blocks)
      × (block_of p v (pool_of p l) id ≡ Out (write_cycle v l + 1))

  abbrev pub have_stored : View → ℕ → ℕ → View
  have_stored v l id = view_write v l (record (write_of v l)
      { stored = write_cycle v l + 1; id = id; last = (write_of v l).id })
