-- What a turn on a pool answers.
-- Source: PipeWire's documentation, "SPA Buffers"; one pool an output port is this project's own.
use Rattle.std.specs.Prelude.{◌≡◌, ◌≢◌, ℕ, ◌+◌, ◌-◌, ◌<◌, List, ◌∷◌, ◌++◌, Option, Some, None, Contains, length, slice_index}
use Rattle.std.specs.Prelude.{option_to_list}
use Rattle.board_rule.specs.declared.view.BlockView.TheVariants.{Free, Out}
use Rattle.board_rule.specs.declared.view.View.{View}
use Rattle.board_rule.specs.Layout.{BoardLayout, first}
use Rattle.board_rule.specs.buffers.BlockReadings.{delay_at, busy_cycles}
use Rattle.board_rule.specs.buffers.EndViews.{pool_at, block_of}
use Rattle.board_rule.specs.buffers.BlockSteps.{fill_cycle}
use Rattle.board_rule.specs.buffers.ReclaimSteps.{IsZeroAtSecond}
use Rattle.io_areas.specs.Writing.{number_given}
use Rattle.io_areas.specs.declared.output_turn.OutputWritten.{OutputWritten}

abbrev pub last_of : List ℕ → ℕ
last_of links = slice_index links (length links - 1)

-- what comes back: nothing in the first cycle, and later the block that was announced in the cycle
-- before, in a pool with a delayed link two cycles before; in the second cycle of such a pool that
-- is block 0
abbrev pub IsReclaimed : BoardLayout → View → ℕ → Option ℕ → Type 0
IsReclaimed p v q None = fill_cycle p v q ≡ first p
IsReclaimed p v q (Some b) = (first p < fill_cycle p v q) × (b < (pool_at p q).blocks)
    × (block_of p v q b ≡ Out (fill_cycle p v q + 1 - busy_cycles p (pool_at p q)))
    × IsZeroAtSecond p v q b

-- from the view v and the free blocks `free` to the view w and the free blocks `left`: the one that
-- is out since this cycle was free longest, the one that came back is used after all others, and
-- each other block is as before. The readers of the links that are as late as the pool gave back
-- the one that came back
pub record AnswersTurn (p : BoardLayout) (v : View) (q : ℕ) (free : List ℕ) (w : View)
    (left : List ℕ) (answer : OutputWritten)
    : Type 0 where
  pub given : answer.given ≡ number_given p v (last_of (pool_at p q).links)
  pub reclaimed : IsReclaimed p v q answer.reclaimed
  pub returned : (l : ℕ) → Contains (pool_at p q).links l
      → delay_at p l + 1 ≡ busy_cycles p (pool_at p q)
      → number_given p v l ≡ answer.reclaimed
  pub used : (answer.used < (pool_at p q).blocks)
      × (block_of p w q answer.used ≡ Out (fill_cycle p v q + 1))
  pub freed : (b : ℕ) → answer.reclaimed ≡ Some b → b ≢ answer.used
      → block_of p w q b ≡ Free
  pub others : (b : ℕ) → b < (pool_at p q).blocks → b ≢ answer.used
      → answer.reclaimed ≢ Some b
      → block_of p w q b ≡ block_of p v q b
  pub queue : free ++ option_to_list answer.reclaimed ≡ answer.used ∷ left
