-- Sums of a plan that have a limit: its events, the samples of its sinks, and the bytes of its
-- blocks.
-- Source: this project's.
use Rattle.std.specs.Prelude.{ℕ, ◌+◌, ◌-◌, ◌*◌, ◌^◌, min, length, filter, sum_by, Bool, true, false}
use Rattle.pw_graph.specs.declared.kind.Kind.{Kind}
use Rattle.pw_graph.specs.declared.kind.Kind.TheVariants.{Sink}
use Rattle.pw_graph.specs.declared.shape.ShapeLink.{ShapeLink}
use Rattle.pw_graph.specs.declared.plan.Epoch.{Epoch}
use Rattle.pw_graph.specs.declared.plan.PortForm.{PortForm}
use Rattle.pw_graph.specs.declared.plan.Plan.{Plan}
use Rattle.pw_graph.specs.Pools.{asked}
use Rattle.pw_graph.specs.PlanForms.{kind_at}

abbrev pub is_sink : Kind → Bool
is_sink Sink = true
is_sink _ = false

-- the events of an epoch: in each cycle two of each node, Begin, a Tick and End
abbrev pub epoch_events : Epoch → ℕ
epoch_events epoch = epoch.shape.cycles * (2 * length epoch.shape.nodes + 3)

-- the samples that a form's port takes in an epoch, and those of all sinks
abbrev pub form_samples : Plan → Epoch → PortForm → ℕ
form_samples plan epoch form = epoch.shape.cycles * (plan.quantum * form.channels)

abbrev pub epoch_samples : Plan → Epoch → ℕ
epoch_samples plan epoch = sum_by (form_samples plan epoch)
    (filter (λ f. is_sink (kind_at plan f.port.node)) epoch.forms)

-- the bytes of the blocks that a link asks for, where a delayed link counts at least 2 buffers, and
-- those of all links
abbrev pub link_bytes : Plan → ShapeLink → ℕ
link_bytes plan link = asked link * (plan.quantum * (link.channels * 2))

abbrev pub epoch_bytes : Plan → Epoch → ℕ
epoch_bytes plan epoch = sum_by (link_bytes plan) epoch.shape.links

-- THE SUMS over all epochs
abbrev pub events_of : Plan → ℕ
events_of plan = sum_by epoch_events plan.epochs

abbrev pub sink_samples_of : Plan → ℕ
sink_samples_of plan = sum_by (epoch_samples plan) plan.epochs

abbrev pub block_bytes_of : Plan → ℕ
block_bytes_of plan = sum_by (epoch_bytes plan) plan.epochs

-- a sum as a number of 64 bits, which stays at the greatest once it is there
unfoldable pub capped : ℕ → ℕ
capped n = min n (2 ^ 64 - 1)
