-- Full rows: what an output of an active node gives in a cycle is one quantum in the channels of
-- its form.
-- Source: PipeWire's documentation, "Graph Scheduling": one quantum for all; the kinds are this
-- project's.
use Rattle.std.specs.Prelude.{◌≡◌, ℕ, ◌*◌, ◌<◌, true, List, Some, length}
use Rattle.pw_graph.specs.declared.ids.PortId.{PortId}
use Rattle.pw_graph.specs.declared.kind.Kind.{Kind}
use Rattle.pw_graph.specs.declared.kind.Kind.TheVariants.{Gain, Mix2, Delay, Map, Split}
use Rattle.pw_graph.specs.declared.plan.Epoch.{Epoch}
use Rattle.pw_graph.specs.declared.plan.Plan.{Plan}
use Rattle.pw_graph.specs.PlanForms.{kind_at}
use Rattle.wav_files.specs.declared.wav.WavIn.{WavIn}
use Rattle.cycle_model.specs.Epochs.{epoch_at, is_active, channels_of, channels_at}
use Rattle.cycle_model.specs.Cycle.{outputs}
use Rattle.cycle_model.specs.Mixing.{takes_part}
use Rattle.cycle_model.specs.Progress.{IsOutputOf}

-- the channels a and b of a node's inputs and n of one of its outputs, as its kind needs them
abbrev pub AgreesIn : Kind → ℕ → ℕ → ℕ → Type 0
AgreesIn (Gain g) a b n = a ≡ n
AgreesIn (Mix2 ga gb) a b n = (a ≡ n) × (b ≡ n)
AgreesIn (Delay frames) a b n = a ≡ n
AgreesIn (Map channels list) a b n = (a ≡ channels) × (n ≡ length list) × (0 < channels)
AgreesIn Split a b n = (a ≡ 2) × (n ≡ 1)
AgreesIn _ a b n = Unit {0}

-- in each epoch the channels of a node's ports agree
abbrev pub AreFormed : Plan → Type 0
AreFormed plan = (c : ℕ) (e : Epoch) (port : PortId) → epoch_at plan c ≡ Some e
    → takes_part e port.node ≡ true → IsOutputOf plan port
    → AgreesIn (kind_at plan port.node)
    (channels_of e.forms (record { node = port.node; port = 0 }))
    (channels_of e.forms (record { node = port.node; port = 1 })) (channels_of e.forms port)

-- FULL ROWS: one quantum of each output of each active node
abbrev pub AreFull : Plan → List WavIn → Type 0
AreFull plan waves = (c : ℕ) (port : PortId) → is_active plan c port.node ≡ true
    → IsOutputOf plan port → length (outputs plan waves c port)
    ≡ plan.quantum * channels_at plan c port
