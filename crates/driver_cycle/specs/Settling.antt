-- Loops of the driver's thread, each after turns of its or settled.
-- Source: PipeWire's documentation, "Graph Scheduling" and "Data loops"; which loop has a node is
-- this project's own.
use Rattle.std.specs.Prelude.{◌≡◌, ℕ, ◌<◌, ◌≤◌, List, length, slice_index_or}
use Rattle.data_loop.specs.declared.loop_state.LoopState.{LoopState}
pub use Rattle.data_loop.specs.Settling.{HasLedAll, HasHadTurns, HasSettled}

-- so it is of each of these loops, by its index
pub record AreEach (R : LoopState → LoopState → Type 0)
    (old new : List LoopState) : Type 0 where
  pub count : length new ≡ length old
  pub each : (k : ℕ) (d : LoopState) → k < length old
      → R (slice_index_or old k d) (slice_index_or new k d)

-- of those before k, the others are as before
pub record AreEachBelow (R : LoopState → LoopState → Type 0) (k : ℕ)
    (old new : List LoopState) : Type 0 where
  pub count : length new ≡ length old
  pub each : (j : ℕ) (d : LoopState) → j < k
      → R (slice_index_or old j d) (slice_index_or new j d)
  pub left : (j : ℕ) (d : LoopState) → k ≤ j
      → slice_index_or new j d ≡ slice_index_or old j d
