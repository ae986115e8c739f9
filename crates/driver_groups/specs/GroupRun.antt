-- Runs of several plans at once: what is left of each.
-- Source: PipeWire's documentation, "Graph Scheduling" (several drivers); boards are this
-- project's own.
use Rattle.std.specs.Prelude.{◌≡◌, List, [], ◌∷◌, ◌++◌, length, map, count_by, All}
use Rattle.std.specs.List.{flat_map, range_with_len}
use Rattle.pw_graph.specs.declared.plan.Plan.{Plan}
use Rattle.pw_graph.specs.History.{is_tick, IsLegalHistory}
use Rattle.wav_files.specs.declared.wav.WavIn.{WavIn}
use Rattle.wav_files.specs.declared.outcome.Outcome.{Outcome}
use Rattle.wav_files.specs.WavWriting.{IsWave}
use Rattle.cycle_model.specs.Expected.{expected_samples}
use Rattle.cycle_model.specs.Rendering.{rendered_sinks, rendered_peaks}
use Rattle.board_rule.specs.declared.closed.Closed.{Closed}
use Rattle.board_rule.specs.events.Closing.{expected}
use Rattle.pw_graph.specs.declared.parts.Part.{Part}

-- THE RUN of a part's plan: one closed board an epoch, of the epoch's shape, on which each link
-- gave the samples of the cycle function. The history is their events one after the other, legal,
-- and without a late check; sinks and meters kept what the cycle function says
pub record IsPartRun (plan : Plan) (waves : List WavIn) (o : Outcome) (closed : List Closed)
    : Type 0 where
  pub sinks : o.sinks ≡ rendered_sinks plan waves
  pub peaks : o.peaks ≡ rendered_peaks plan waves
  pub waves_are : All (λ kept. IsWave kept.wav) o.sinks
  pub shapes : map (λ x. x.board_shape.shape) closed ≡ map (λ e. e.shape) plan.epochs
  pub tables : map expected closed
      ≡ map (expected_samples plan waves) (range_with_len 0 (length plan.epochs))
  pub events : o.history ≡ flat_map (λ x. x.events) closed
  pub legal : IsLegalHistory (map (λ e. e.shape) plan.epochs) o.history
  pub quiet : count_by is_tick o.history ≡ 0

-- ALL RUNS, in the order of the parts: the closed boards are those of each part, one part after the
-- other
abbrev pub AreRunsOf : List WavIn → List Part → List Outcome → List Closed → Type 0
AreRunsOf waves [] [] closed = closed ≡ []
AreRunsOf waves (p ∷ ps) (o ∷ os) closed = (own : List Closed) × (rest : List Closed)
    × (closed ≡ own ++ rest) × IsPartRun p.plan waves o own × AreRunsOf waves ps os rest
AreRunsOf waves _ _ closed = ⊥
