use Rattle.std.proofs.Common.{◌≡◌, ◌≤◌, ◌+◌, List, length, take, filter_map}
use Rattle.std.specs.List.{enumerate_from}
use Rattle.wav_files.specs.declared.wav.WavIn.{WavIn}
use Rattle.cycle_model.specs.Rendering.{peak_at}
use Rattle.graph_run.specs.Outcomes.{AreDone}
use Rattle.graph_run.proofs.outcomes.peaks_of.Given as goal

abbrev pub invariant-loop-place : goal.invariant-loop-place
invariant-loop-place l = record {
  end : l.place-end ≡ length l.plan.nodes;
  kept : (waves : List WavIn) → AreDone l.plan waves l.loops
      → l.peaks.list ≡ filter_map (peak_at l.plan waves) (take l.place (enumerate_from 0 l.plan.nodes));
  room : length l.plan.nodes ≤ l.peaks.spare + l.place;
}
