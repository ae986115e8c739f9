-- Sums over the epochs so far that have a limit, and which limit is passed first.
-- Source: this project's.
use Rattle.std.specs.Prelude.{◌≡◌, ℕ, ◌+◌, ◌*◌, Bool, List, filter, sum_by, nat_lt, Option, Some, None, Result, Ok, Err}
use Rattle.std.specs.Prelude.{slice_index_or, if◌then◌else◌}
use Rattle.pw_graph.specs.declared.kind.Kind.{Kind}
use Rattle.pw_graph.specs.declared.kind.Kind.TheVariants.{Dummy}
use Rattle.pw_lists.specs.declared.limit.Which.{Which}
use Rattle.pw_lists.specs.declared.limit.Which.TheVariants as W
use Rattle.pw_graph.specs.declared.plan.Epoch.{Epoch}
use Rattle.pw_graph.specs.declared.plan.PortForm.{PortForm}
use Rattle.pw_graph.specs.declared.shape.ShapeLink.{ShapeLink}
use Rattle.pw_lists.specs.Limits.{events_limit, sink_samples_limit, block_bytes_limit}
use Rattle.pw_graph.specs.PlanSums.{is_sink, epoch_events, capped}
use Rattle.pw_graph.specs.Pools.{asked}
use Rattle.graph_lines.specs.declared.limits.Sums.{Sums}

-- the samples that a form's port takes in an epoch, and those of all sinks
abbrev pub form_samples : Epoch → PortForm → ℕ
form_samples epoch form = epoch.shape.cycles * (epoch.shape.quantum * form.channels)

abbrev pub is_sink_form : List Kind → PortForm → Bool
is_sink_form kinds form = is_sink (slice_index_or kinds form.port.node Dummy)

abbrev pub sink_samples : List Kind → Epoch → ℕ
sink_samples kinds epoch = sum_by (form_samples epoch) (filter (is_sink_form kinds) epoch.forms)

-- the bytes of the blocks that a link asks for, where a delayed link counts at least 2 buffers, and
-- those of all links
abbrev pub link_bytes : Epoch → ShapeLink → ℕ
link_bytes epoch link = asked link * (epoch.shape.quantum * (link.channels * 2))

abbrev pub block_bytes : Epoch → ℕ
block_bytes epoch = sum_by (link_bytes epoch) epoch.shape.links

-- THE SUMS with an epoch more
abbrev pub sums_with : List Kind → Sums → Epoch → Sums
sums_with kinds sums epoch = record {
  events = sums.events + epoch_events epoch;
  samples = sums.samples + sink_samples kinds epoch;
  bytes = sums.bytes + block_bytes epoch;
}

-- sums of which each stays at the greatest number of 64 bits, which is above its limit
abbrev pub capped_sums : Sums → Sums
capped_sums sums = record {
  events = capped sums.events;
  samples = capped sums.samples;
  bytes = capped sums.bytes;
}

-- THE LIMIT that sums pass: events before samples of sinks before bytes of blocks
abbrev pub passed : Sums → Option Which
passed sums = if nat_lt events_limit sums.events then Some W.Events
    else (if nat_lt sink_samples_limit sums.samples then Some W.SinkSamples
    else (if nat_lt block_bytes_limit sums.bytes then Some W.BlockBytes else None))

-- an epoch more: the new sums where they pass no limit, else the limit
abbrev pub IsJudged : List Kind → Sums → Epoch → Result Sums Which → Type 0
IsJudged kinds sums epoch (Ok new) = (new ≡ sums_with kinds sums epoch)
    × (passed (sums_with kinds sums epoch) ≡ None)
IsJudged kinds sums epoch (Err which) = passed (sums_with kinds sums epoch) ≡ Some which
