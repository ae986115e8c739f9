-- The call of a node that fills a pool by which it has a block again: what it asks of the view of
-- its seat, its answer, and the view after it. Pools and blocks are given by number.
-- Source: PipeWire's documentation, "SPA Buffers"; the words of pools are this project's own.
use Rattle.std.specs.Prelude.{◌≡◌, ℕ, ◌<◌, false, Option, Some, None}
use Rattle.board_rule.specs.declared.view.View.{View}
use Rattle.board_rule.specs.Layout.{BoardLayout, first}
use Rattle.board_rule.specs.buffers.EndViews.{filler_of}
use Rattle.board_rule.specs.activation.WorkSteps.{IsRunning}
use Rattle.board_rule.specs.activation.SeatNodes.{IsCycle}
use Rattle.board_rule.specs.buffers.BlockSteps.{fill_cycle, IsLoaded}
use Rattle.board_rule.specs.buffers.ReclaimSteps.{IsUnreclaimed, readers_loaded, IsDue, IsReturned, IsZeroAtSecond}
use Rattle.board_rule.specs.buffers.BufferReads.{HasPool}

module _ (p : BoardLayout) where
  -- the node that fills the pool is one of the seat, with cycles left, and works
  abbrev pub IsAtPool : View → ℕ → Type 0
  IsAtPool v q = HasPool p v q × IsRunning false v (filler_of p q) × IsCycle p (fill_cycle p v q)

  -- RECLAIMING: all links of the pool are loaded in this cycle, and the pool is not yet reclaimed
  -- in it. In each cycle but the first the block that is due becomes free. It is the one whose
  -- number the readers of the latest links gave back, and block 0 in the second cycle of a pool
  -- with a delayed link
  abbrev pub Reclaims : View → ℕ → Type 0
  Reclaims v q = IsAtPool v q × IsLoaded p v q × IsUnreclaimed p v q (fill_cycle p v q)

  abbrev pub HasReclaimed : View → ℕ → Option ℕ → View → Type 0
  HasReclaimed v q None w = (fill_cycle p v q ≡ first p) × (w ≡ v)
  HasReclaimed v q (Some b) w = (first p < fill_cycle p v q) × IsDue p v q b
      × (w ≡ readers_loaded p v q b 0)
      × IsReturned p v q b × IsZeroAtSecond p v q b
