-- Rendered waves and peaks: what the sinks and meters of a plan have after its last cycle. Source:
-- this project's own.
use Rattle.std.specs.Prelude.{ℕ, ◌-◌, ◌==◌, ◌&&◌, Bool, true, false, List, [], Option, Some, None, filter_map, nat_lt, ℤ, if◌then◌else◌}
use Rattle.std.specs.List.{enumerate_from}
use Rattle.pw_graph.specs.declared.kind.Kind.{Kind}
use Rattle.pw_graph.specs.declared.kind.Kind.TheVariants.{Meter}
use Rattle.pw_graph.specs.declared.plan.Plan.{Plan}
use Rattle.pw_graph.specs.declared.plan.PlanNode.{PlanNode}
use Rattle.pw_lists.specs.Samples.{peak_of}
use Rattle.pw_graph.specs.PlanSums.{is_sink}
use Rattle.wav_files.specs.declared.wav.WavIn.{WavIn}
use Rattle.wav_files.specs.declared.outcome.Kept.{Kept}
use Rattle.wav_files.specs.declared.outcome.Peak.{Peak}
use Rattle.cycle_model.specs.Epochs.{all_cycles}
use Rattle.cycle_model.specs.Cycle.{outputs, stream_of}

-- the kind that keeps a peak
abbrev pub is_meter : Kind → Bool
is_meter Meter = true
is_meter _ = false

-- the stream of a node's first input up to the run's last cycle; nothing where there is no cycle
abbrev pub end_stream : Plan → List WavIn → ℕ → List ℤ
end_stream plan waves node =
    if all_cycles plan == 0 then [] else stream_of plan (outputs plan waves) (all_cycles plan - 1)
    (record { node = node; port = 0 })

-- a sink with a format at the end keeps its stream, in that format
abbrev pub kept_of : Plan → List WavIn → ℕ × PlanNode → Option Kept
kept_of plan waves (place, node) =
    if is_sink node.kind && nat_lt 0 node.rate
    then Some (record {
      node = place;
      wav = record
          { rate = node.rate; channels = node.channels; samples = end_stream plan waves place };
    })
    else None

-- a meter with a format at the end has the peak of its stream
abbrev pub peak_at : Plan → List WavIn → ℕ × PlanNode → Option Peak
peak_at plan waves (place, node) =
    if is_meter node.kind && nat_lt 0 node.rate
    then Some (record { node = place; value = peak_of (end_stream plan waves place) })
    else None

-- ascending by node
unfoldable pub rendered_sinks : Plan → List WavIn → List Kept
rendered_sinks plan waves = filter_map (kept_of plan waves) (enumerate_from 0 plan.nodes)

unfoldable pub rendered_peaks : Plan → List WavIn → List Peak
rendered_peaks plan waves = filter_map (peak_at plan waves) (enumerate_from 0 plan.nodes)
