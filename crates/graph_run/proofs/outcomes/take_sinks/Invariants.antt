use Rattle.std.proofs.Common.{◌≡◌, ◌≤◌, ◌+◌, List, length, take, filter_map}
use Rattle.std.specs.List.{enumerate_from}
use Rattle.wav_files.specs.declared.wav.WavIn.{WavIn}
use Rattle.cycle_model.specs.Rendering.{kept_of}
use Rattle.graph_run.specs.Outcomes.{HaveAll, AreDone, AreLeftFrom}
use Rattle.graph_run.proofs.outcomes.take_sinks.Given as goal

abbrev pub invariant-loop-place : goal.invariant-loop-place
invariant-loop-place l = record {
  end : l.place-end ≡ length l.plan.nodes;
  all : HaveAll l.plan l.loops;
  left : (waves : List WavIn) → AreDone l.plan waves l.fn.loops → AreLeftFrom l.place waves l.loops;
  kept : (waves : List WavIn) → AreDone l.plan waves l.fn.loops
      → l.sinks.list ≡ filter_map (kept_of l.plan waves) (take l.place (enumerate_from 0 l.plan.nodes));
  room : length l.plan.nodes ≤ l.sinks.spare + l.place;
}
