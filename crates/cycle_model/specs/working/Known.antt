-- What the reference program knows: what ports gave in a cycle, and what nodes have received; and
-- what follows.
-- Source: PipeWire's documentation, "Graph Scheduling": a node runs after those it depends on.
use Rattle.std.specs.Prelude.{ℕ, ◌+◌, ◌*◌, ◌==◌, ◌&&◌, nat_lt, Bool, List, [], ◌++◌, Option, Some, None, map}
use Rattle.std.specs.Prelude.{ℤ, if◌then◌else◌}
use Rattle.std.specs.List.{list_any, range_with_len}
use Rattle.pw_graph.specs.declared.ids.PortId.{PortId}
use Rattle.pw_graph.specs.declared.kind.Kind.{Kind}
use Rattle.pw_graph.specs.declared.plan.Epoch.{Epoch}
use Rattle.pw_graph.specs.declared.plan.PlanNode.{PlanNode}
use Rattle.pw_lists.specs.Samples.{peak_of}
use Rattle.pw_graph.specs.KindFunction.{kind_output}
use Rattle.pw_graph.specs.KindPorts.{input_count, output_count}
use Rattle.pw_graph.specs.PlanSums.{is_sink}
use Rattle.wav_files.specs.declared.outcome.Kept.{Kept}
use Rattle.wav_files.specs.declared.outcome.Peak.{Peak}
use Rattle.cycle_model.specs.declared.received.Received.{Received}
use Rattle.cycle_model.specs.declared.received.Given.{Given}
use Rattle.cycle_model.specs.Epochs.{is_fresh, channels_of}
use Rattle.cycle_model.specs.Cycle.{last_of}
use Rattle.cycle_model.specs.Rendering.{is_meter}
use Rattle.cycle_model.specs.KindSamples.{kind_inputs_of}
pub use Rattle.cycle_model.specs.working.KnownSamples.{given_at, brought_by, input_by}

-- what a node has received after one cycle more
abbrev pub received_more : ℕ → Bool → List Given → List Given → Epoch → Kind → ℕ
    → Received → Received
received_more quantum first before now epoch kind node r = record {
  frames = r.frames + quantum;
  a = if nat_lt 0 (input_count kind)
      then r.a ++ input_by quantum first before now epoch (record { node = node; port = 0 })
      else r.a;
  b = if nat_lt 1 (input_count kind)
      then r.b ++ input_by quantum first before now epoch (record { node = node; port = 1 })
      else r.b;
}

-- what a node gives at one of its outputs, counted from 0
abbrev pub given_by : ℕ → Epoch → Kind → List ℤ → ℕ → Received → ℕ → Given
given_by quantum epoch kind wave node r output =
    let port : PortId = record { node = node; port = input_count kind + output } in
    record {
      port = port;
      samples = last_of (quantum * channels_of epoch.forms port)
          (kind_output kind (kind_inputs_of wave (channels_of epoch.forms port) r) output);
    }

-- what it gives at all of them
abbrev pub all_given_by : ℕ → Epoch → Kind → List ℤ → ℕ → Received → List Given
all_given_by quantum epoch kind wave node r = map (given_by quantum epoch kind wave node r)
    (range_with_len 0 (output_count kind))

-- a node's streams begin anew with a cycle: that of an epoch for which it is fresh
abbrev pub is_released : List Epoch → ℕ → ℕ → Bool
is_released epochs cycle node = list_any (λ e. (e.shape.first == cycle) && is_fresh e node) epochs

abbrev pub released : Received → Received
released r = record { frames = r.frames; a = []; b = [] }

-- what a sink with a format keeps, and the peak of a meter with a format, by what it has received
abbrev pub kept_by : ℕ → PlanNode → Received → Option Kept
kept_by place node r =
    if is_sink node.kind && nat_lt 0 node.rate
    then Some (record {
      node = place;
      wav = record { rate = node.rate; channels = node.channels; samples = r.a };
    })
    else None

abbrev pub peak_by : ℕ → PlanNode → Received → Option Peak
peak_by place node r = if is_meter node.kind && nat_lt 0 node.rate
    then Some (record { node = place; value = peak_of r.a }) else None
