-- The samples of the cycle function are a table of samples for the board of an epoch.
use Rattle.std.proofs.Common.{◌≡◌, ℕ, ◌+◌, ◌-◌, List, [], length, get_or, ap, ◌∙◌, arith}
use Rattle.std.specs.Prelude.{Some, slice_get}
use Rattle.pw_graph.specs.declared.plan.Epoch.{Epoch}
use Rattle.pw_graph.specs.declared.plan.Plan.{Plan}
use Rattle.pw_graph.specs.SoundPlan.{IsSoundPlan}
use Rattle.wav_files.specs.declared.wav.WavIn.{WavIn}
use Rattle.cycle_model.specs.WavesFit.{WavesFit}
use Rattle.cycle_model.specs.Expected.{AreShort, expected_samples}
use Rattle.cycle_model.proofs.ExpectedLemmas.{expected_long, expected_short}
use Rattle.board_rule.specs.Layout.{layout_of}
use Rattle.board_rule.specs.buffers.SampleWords.{IsTable}
use Rattle.graph_run.specs.Seating.{epoch_board}

pub is_table : (plan : Plan) (waves : List WavIn) (f : ℕ → ℕ) (loops : ℕ) → IsSoundPlan plan → WavesFit plan waves → AreShort waves → (k : ℕ) (e : Epoch)
    → slice_get plan.epochs k ≡ Some e → IsTable (layout_of (epoch_board f loops e)) (expected_samples plan waves k)
is_table plan waves f loops sound fit short k e at = record {
  long = λ c q x lt pool. let i : e.shape.first + c - e.shape.first ≡ c = omega arith in
      ap (λ n. length (get_or (get_or (expected_samples plan waves k) n []) q [])) i ∙ expected_long plan waves sound fit k e at c q x lt pool;
  fits = λ c q. expected_short plan waves sound short k (c - e.shape.first) q;
}
