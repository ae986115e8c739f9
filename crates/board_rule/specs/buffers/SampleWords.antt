-- How samples are stored in the words of a block: four in a word, the first in the lowest bits, as
-- two's complement.
-- Source: SPA_AUDIO_FORMAT_S16_LE; four samples a word are this project's own.
use Rattle.std.specs.Prelude.{◌≡◌, ℕ, ℤ, pos, neg_ℤ, ◌≤ℤ◌, ◌+◌, ◌-◌, ◌*◌, ◌<◌, List, [], Some, All, length, cond, ltb, map}
use Rattle.std.specs.Prelude.{replicate, slice_get, slice_index_or}
use Rattle.std.specs.Int.{w16, cast_unsigned}
use Rattle.pw_graph.specs.declared.shape.Shape.{Shape}
use Rattle.pw_graph.specs.declared.pools.PoolShape.{PoolShape}
use Rattle.pw_graph.specs.Pools.{pools_of}
use Rattle.board_rule.specs.Layout.{BoardLayout, first}
use Rattle.board_rule.specs.start.StartViews.{Samples}

-- a sample as a number below 2 ^ 16; 0 past the last
abbrev pub bits_at : List ℤ → ℕ → ℕ
bits_at xs j = cast_unsigned w16 (slice_index_or xs j (pos 0))

-- the word i of a list of samples
abbrev pub packed : List ℤ → ℕ → ℕ
packed xs i = bits_at xs (4 * i) + 65536 *
    (bits_at xs (4 * i + 1) + 65536 * (bits_at xs (4 * i + 2) + 65536 * bits_at xs (4 * i + 3)))

-- SILENCE: for each cycle and pool one quantum of zeros
abbrev pub silence : Shape → Samples
silence shape = replicate shape.cycles
    (map (λ x. replicate (shape.quantum * x.channels) (pos 0)) (pools_of shape))

module _ (p : BoardLayout) where
  -- what the pool q gives in a cycle
  abbrev pub samples_in : Samples → ℕ → ℕ → List ℤ
  samples_in e cycle q = slice_index_or (slice_index_or e (cycle - first p) []) q []

  -- the samples of a block whose stamp is n: it was announced in the cycle before n. Before the
  -- first cycle there were no samples, so its words are 0
  abbrev pub samples_of : Samples → ℕ → ℕ → List ℤ
  samples_of e n q = cond (ltb (first p) n) (samples_in e (n - 1) q) []

  -- TABLE OF SAMPLES: for each cycle and pool one quantum of 16-bit samples
  pub record IsTable (e : Samples) : Type 0 where
    pub long : (c q : ℕ) (x : PoolShape) → c < p.shape.cycles
        → slice_get (pools_of p.shape) q ≡ Some x
        → length (samples_in e (first p + c) q) ≡ p.shape.quantum * x.channels
    pub fits : (c q : ℕ) → All (λ s. (neg_ℤ (pos 32768) ≤ℤ s) × (s ≤ℤ pos 32767))
        (samples_in e c q)
