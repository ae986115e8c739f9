-- The definitions at work: small plans, each of whose last node is a sink, and what it keeps, by
-- computation only.
use Rattle.std.proofs.Common.{◌≡◌, ℕ, true, false, List, [], ◌∷◌, map, ℤ, pos, negsuc, refl}
use Rattle.pw_graph.specs.declared.ids.PortId.{PortId}
use Rattle.pw_graph.specs.declared.kind.Kind.{Kind}
use Rattle.pw_graph.specs.declared.kind.Kind.TheVariants.{Source, Gain, Mix2, Delay, Split, Sink}
use Rattle.pw_graph.specs.declared.shape.ShapeLink.{ShapeLink}
use Rattle.pw_graph.specs.declared.plan.Epoch.{Epoch}
use Rattle.pw_graph.specs.declared.plan.PortForm.{PortForm}
use Rattle.pw_graph.specs.declared.plan.Fresh.{Fresh}
use Rattle.pw_graph.specs.declared.plan.PlanNode.{PlanNode}
use Rattle.pw_graph.specs.declared.plan.Plan.{Plan}
use Rattle.wav_files.specs.declared.wav.WavIn.{WavIn}
use Rattle.cycle_model.specs.Cycle.{outputs_after}
use Rattle.cycle_model.specs.Rendering.{rendered_sinks}
use Rattle.cycle_model.specs.Expected.{expected_samples}

abbrev port : ℕ → ℕ → PortId
port n p = record { node = n; port = p }

abbrev node : Kind → PlanNode
node kind = record { name = []; kind = kind; k = 0; rate = 0; channels = 0 }

abbrev sink : PlanNode
sink = record { name = []; kind = Sink; k = 0; rate = 48000; channels = 1 }

-- a port and its channels
abbrev form : ℕ × ℕ × ℕ → PortForm
form (n, p, channels) = record { port = port n p; rate = 48000; channels = channels }

-- a link that is in time, and one that is a cycle late, of one channel
abbrev prompt : PortId → PortId → ShapeLink
prompt from to = record { from = from; to = to; channels = 1; buffers = 2; delayed = false }

abbrev late : PortId → PortId → ShapeLink
late from to = record { from = from; to = to; channels = 1; buffers = 2; delayed = true }

abbrev fresh : ℕ → Fresh
fresh n = record { node = n; channels = 1 }

-- an epoch from its first cycle on: cycles of frames, its active nodes, links, forms and fresh nodes
abbrev epoch : ℕ → ℕ → ℕ → List ℕ → List ShapeLink → List (ℕ × ℕ × ℕ) → List ℕ → Epoch
epoch first cycles quantum active links forms begins = record {
  shape = record {
    quantum = quantum;
    first = first;
    cycles = cycles;
    driver = 63;
    nodes = map (λ n. record { node = n; required = 0; targets = [] }) active;
    links = links;
  };
  forms = map form forms;
  fresh = map fresh begins;
}

abbrev plan : ℕ → List PlanNode → List Epoch → Plan
plan quantum nodes epochs = record { quantum = quantum; nodes = nodes; epochs = epochs; lines = [] }

abbrev wave : ℕ → ℕ → List ℤ → WavIn
wave n channels samples = record { node = n; wav = record { rate = 48000; channels = channels; samples = samples } }

abbrev Keeps : Plan → List WavIn → ℕ → List ℤ → Type 0
Keeps p waves n samples = rendered_sinks p waves ≡ record { node = n; wav = record { rate = 48000; channels = 1; samples = samples } } ∷ []

-- a source of three samples, for two cycles of two frames: the rest is silence
abbrev one_source : Plan
one_source = plan 2 (node Source ∷ sink ∷ []) (epoch 0 2 2 (0 ∷ 1 ∷ 63 ∷ []) (prompt (port 0 0) (port 1 0) ∷ [])
    ((0, 0, 1) ∷ (1, 0, 1) ∷ []) (1 ∷ []) ∷ [])

pub one_source_is_kept : Keeps one_source (wave 0 1 (pos 7 ∷ pos 8 ∷ pos 9 ∷ []) ∷ []) 1 (pos 7 ∷ pos 8 ∷ pos 9 ∷ pos 0 ∷ [])
unfolding outputs_after rendered_sinks
one_source_is_kept = refl

-- its pool gives one row of two samples in each of the two cycles, and no epoch comes after
pub one_pool_is_expected : expected_samples one_source (wave 0 1 (pos 7 ∷ pos 8 ∷ pos 9 ∷ []) ∷ []) 0
    ≡ ((pos 7 ∷ pos 8 ∷ []) ∷ []) ∷ ((pos 9 ∷ pos 0 ∷ []) ∷ []) ∷ []
unfolding outputs_after expected_samples
one_pool_is_expected = refl

pub no_later_epoch_is_expected : expected_samples one_source (wave 0 1 (pos 7 ∷ pos 8 ∷ pos 9 ∷ []) ∷ []) 1 ≡ []
unfolding expected_samples
no_later_epoch_is_expected = refl

-- three sources into one port are clamped once, after the sum
abbrev three_sources : Plan
three_sources = plan 1 (node Source ∷ node Source ∷ node Source ∷ sink ∷ [])
    (epoch 0 1 1 (0 ∷ 1 ∷ 2 ∷ 3 ∷ 63 ∷ []) (prompt (port 0 0) (port 3 0) ∷ prompt (port 1 0) (port 3 0) ∷ prompt (port 2 0) (port 3 0) ∷ [])
    ((0, 0, 1) ∷ (1, 0, 1) ∷ (2, 0, 1) ∷ (3, 0, 1) ∷ []) (3 ∷ []) ∷ [])

pub three_sources_are_clamped_once : Keeps three_sources
    (wave 0 1 (pos 30000 ∷ []) ∷ wave 1 1 (pos 30000 ∷ []) ∷ wave 2 1 (negsuc 29999 ∷ []) ∷ []) 3 (pos 30000 ∷ [])
unfolding outputs_after rendered_sinks
three_sources_are_clamped_once = refl

pub two_sources_stop_at_the_end : Keeps three_sources (wave 0 1 (negsuc 32767 ∷ []) ∷ wave 1 1 (negsuc 32767 ∷ []) ∷ []) 3
    (negsuc 32767 ∷ [])
unfolding outputs_after rendered_sinks
two_sources_stop_at_the_end = refl

-- a source that is off for an epoch goes on where it stopped
abbrev off_and_on : Plan
off_and_on = let links = prompt (port 0 0) (port 1 0) ∷ [] in let forms = (0, 0, 1) ∷ (1, 0, 1) ∷ [] in plan 2 (node Source ∷ sink ∷ [])
    (epoch 0 1 2 (0 ∷ 1 ∷ []) links forms (1 ∷ []) ∷ epoch 1 1 2 (1 ∷ []) [] ((1, 0, 1) ∷ []) [] ∷ epoch 2 1 2 (0 ∷ 1 ∷ []) links forms [] ∷
    [])

pub a_source_goes_on_where_it_stopped : Keeps off_and_on (wave 0 1 (pos 1 ∷ pos 2 ∷ pos 3 ∷ pos 4 ∷ pos 5 ∷ pos 6 ∷ []) ∷ []) 1
    (pos 1 ∷ pos 2 ∷ pos 0 ∷ pos 0 ∷ pos 3 ∷ pos 4 ∷ [])
unfolding outputs_after rendered_sinks
a_source_goes_on_where_it_stopped = refl

-- a stereo source, split and mixed again
abbrev split_and_mixed : Plan
split_and_mixed = plan 4 (node Source ∷ node Split ∷ node (Mix2 (pos 256) (pos 256)) ∷ sink ∷ [])
    (epoch 0 1 4 (0 ∷ 1 ∷ 2 ∷ 3 ∷ [])
    (record { from = port 0 0; to = port 1 0; channels = 2; buffers = 2; delayed = false } ∷ prompt (port 1 1) (port 2 0) ∷ prompt
    (port 1 2) (port 2 1) ∷ prompt (port 2 2) (port 3 0) ∷ [])
    ((0, 0, 2) ∷ (1, 0, 2) ∷ (1, 1, 1) ∷ (1, 2, 1) ∷ (2, 0, 1) ∷ (2, 1, 1) ∷ (2, 2, 1) ∷ (3, 0, 1) ∷ []) (1 ∷ 2 ∷ 3 ∷ []) ∷ [])

pub left_and_right_are_mixed : Keeps split_and_mixed
    (wave 0 2 (pos 1 ∷ pos 10 ∷ pos 2 ∷ pos 20 ∷ pos 3 ∷ pos 30 ∷ pos 4 ∷ pos 40 ∷ []) ∷ []) 3
    (pos 11 ∷ pos 22 ∷ pos 33 ∷ pos 44 ∷ [])
unfolding outputs_after rendered_sinks
left_and_right_are_mixed = refl

-- a delay by one frame that gives up its formats between two epochs begins anew; one longer than the run is silent
abbrev delayed_by : ℕ → ℕ → List Epoch → Plan
delayed_by frames quantum epochs = plan quantum (node Source ∷ node (Delay frames) ∷ sink ∷ []) epochs

abbrev through_delay : ℕ → ℕ → ℕ → List ℕ → Epoch
through_delay first cycles quantum begins = epoch first cycles quantum (0 ∷ 1 ∷ 2 ∷ [])
    (prompt (port 0 0) (port 1 0) ∷ prompt (port 1 1) (port 2 0) ∷ [])
    ((0, 0, 1) ∷ (1, 0, 1) ∷ (1, 1, 1) ∷ (2, 0, 1) ∷ []) begins

pub a_delay_begins_anew : Keeps (delayed_by 1 2 (through_delay 0 1 2 (1 ∷ 2 ∷ []) ∷ through_delay 1 1 2 (1 ∷ []) ∷ []))
    (wave 0 1 (pos 1 ∷ pos 2 ∷ pos 3 ∷ pos 4 ∷ []) ∷ []) 2 (pos 0 ∷ pos 1 ∷ pos 0 ∷ pos 3 ∷ [])
unfolding outputs_after rendered_sinks
a_delay_begins_anew = refl

pub a_delay_goes_on : Keeps (delayed_by 1 2 (through_delay 0 1 2 (1 ∷ 2 ∷ []) ∷ through_delay 1 1 2 [] ∷ []))
    (wave 0 1 (pos 1 ∷ pos 2 ∷ pos 3 ∷ pos 4 ∷ []) ∷ []) 2 (pos 0 ∷ pos 1 ∷ pos 2 ∷ pos 3 ∷ [])
unfolding outputs_after rendered_sinks
a_delay_goes_on = refl

pub a_delay_longer_than_the_run : Keeps (delayed_by 10 4 (through_delay 0 2 4 (1 ∷ 2 ∷ []) ∷ []))
    (wave 0 1 (pos 1 ∷ pos 2 ∷ pos 3 ∷ pos 4 ∷ []) ∷ []) 2 (pos 0 ∷ pos 0 ∷ pos 0 ∷ pos 0 ∷ pos 0 ∷ pos 0 ∷ pos 0 ∷ pos 0 ∷ [])
unfolding outputs_after rendered_sinks
a_delay_longer_than_the_run = refl

-- two links that are a cycle late, one after the other
abbrev late_gain : Plan
late_gain = plan 2 (node Source ∷ node (Gain (pos 256)) ∷ sink ∷ [])
    (epoch 0 4 2 (0 ∷ 1 ∷ 2 ∷ []) (late (port 0 0) (port 1 0) ∷ late (port 1 1) (port 2 0) ∷ [])
    ((0, 0, 1) ∷ (1, 0, 1) ∷ (1, 1, 1) ∷ (2, 0, 1) ∷ []) (1 ∷ 2 ∷ []) ∷ [])

pub two_late_links_are_two_cycles : Keeps late_gain (wave 0 1 (pos 1 ∷ pos 2 ∷ pos 3 ∷ pos 4 ∷ []) ∷ []) 2
    (pos 0 ∷ pos 0 ∷ pos 0 ∷ pos 0 ∷ pos 1 ∷ pos 2 ∷ pos 3 ∷ pos 4 ∷ [])
unfolding outputs_after rendered_sinks
two_late_links_are_two_cycles = refl

-- a loop through links that are a cycle late
abbrev feedback : Plan
feedback = plan 1 (node Source ∷ node (Mix2 (pos 256) (pos 128)) ∷ node (Gain (pos 256)) ∷ sink ∷ [])
    (epoch 0 5 1 (0 ∷ 1 ∷ 2 ∷ 3 ∷ []) (prompt (port 0 0) (port 1 0) ∷ late (port 1 2) (port 2 0) ∷ late (port 2 1) (port 1 1) ∷ prompt
    (port 1 2) (port 3 0) ∷ [])
    ((0, 0, 1) ∷ (1, 0, 1) ∷ (1, 1, 1) ∷ (1, 2, 1) ∷ (2, 0, 1) ∷ (2, 1, 1) ∷ (3, 0, 1) ∷ []) (1 ∷ 2 ∷ 3 ∷ []) ∷ [])

pub feedback_decays : Keeps feedback (wave 0 1 (pos 8 ∷ []) ∷ []) 3 (pos 8 ∷ pos 0 ∷ pos 4 ∷ pos 0 ∷ pos 2 ∷ [])
unfolding outputs_after rendered_sinks
feedback_decays = refl

-- what a late link holds at an epoch's end is dropped
abbrev late_epoch : ℕ → ℕ → List ℕ → Epoch
late_epoch first cycles begins = epoch first cycles 1 (0 ∷ 1 ∷ []) (late (port 0 0) (port 1 0) ∷ []) ((0, 0, 1) ∷ (1, 0, 1) ∷ []) begins

abbrev late_source : List Epoch → Plan
late_source epochs = plan 1 (node Source ∷ sink ∷ []) epochs

pub a_late_link : Keeps (late_source (late_epoch 0 3 (1 ∷ []) ∷ [])) (wave 0 1 (pos 5 ∷ pos 6 ∷ pos 7 ∷ []) ∷ []) 1
    (pos 0 ∷ pos 5 ∷ pos 6 ∷ [])
unfolding outputs_after rendered_sinks
a_late_link = refl

pub each_epoch_begins_with_silence : Keeps (late_source (late_epoch 0 1 (1 ∷ []) ∷ late_epoch 1 2 [] ∷ []))
    (wave 0 1 (pos 5 ∷ pos 6 ∷ pos 7 ∷ []) ∷ []) 1 (pos 0 ∷ pos 0 ∷ pos 6 ∷ [])
unfolding outputs_after rendered_sinks
each_epoch_begins_with_silence = refl

pub so_does_one_after_a_pause : Keeps (late_source
    (late_epoch 0 1 (1 ∷ []) ∷ epoch 1 1 1 (1 ∷ []) [] ((1, 0, 1) ∷ []) [] ∷ late_epoch 2 2 [] ∷ []))
    (wave 0 1 (pos 5 ∷ pos 6 ∷ pos 7 ∷ []) ∷ []) 1 (pos 0 ∷ pos 0 ∷ pos 0 ∷ pos 6 ∷ [])
unfolding outputs_after rendered_sinks
so_does_one_after_a_pause = refl
