-- Streams: what a node has received before and after a quantum, what it gives, and what it keeps of
-- it.
-- Source: the graph's nodes of PipeWire's documentation, "Graph Scheduling"; the kinds are this
-- project's.
use Rattle.std.specs.Prelude.{◌≡◌, ℕ, ◌-◌, ◌+◌, List, [], ◌++◌, length, drop, ℤ, ◌⊎◌, Option, Some, None}
use Rattle.pw_graph.specs.declared.kind.Kind.{Kind}
use Rattle.pw_graph.specs.declared.kind.Kind.TheVariants as K
use Rattle.pw_lists.specs.Samples.{peak_of}
use Rattle.pw_graph.specs.KindFunction.{KindInputs, kind_output}
use Rattle.wav_files.specs.declared.wav.Wav.{Wav}
use Rattle.node_state.specs.Slices.{left_channels}

-- the samples and the channels of a wave, none without one
abbrev pub samples_of : Option Wav → List ℤ
samples_of (Some wav) = wav.samples
samples_of None = []

abbrev pub channels_of : Option Wav → ℕ
channels_of (Some wav) = wav.channels
channels_of None = 0

-- nothing received yet
abbrev pub no_inputs : Kind → Option Wav → ℕ → KindInputs
no_inputs kind wav n = record {
  wave = samples_of wav;
  frames = 0;
  channels = left_channels kind (channels_of wav) n;
  a = [];
  b = [];
}

-- a wave is there for a source, and for no other kind
abbrev pub HasItsWave : Kind → Option Wav → Type 0
HasItsWave K.Source (Some wav) = Unit {0}
HasItsWave K.Source None = ⊥
HasItsWave _ (Some wav) = ⊥
HasItsWave _ None = Unit {0}

-- what has been received after `frames` more frames, with what they brought
abbrev pub followed : ℕ → List ℤ → List ℤ → KindInputs → KindInputs
followed frames a b h = record h { frames = h.frames + frames; a = h.a ++ a; b = h.b ++ b }

-- a stream begun anew, of n channels at the first input; the file and the frames go on
abbrev pub restarted : Kind → ℕ → KindInputs → KindInputs
restarted kind n h = record h { channels = left_channels kind h.channels n; a = []; b = [] }

-- the last n samples of the kind's function of all that was received
abbrev pub output_now : Kind → KindInputs → ℕ → ℕ → List ℤ
output_now kind h output n = drop (length (kind_output kind h output) - n)
    (kind_output kind h output)

-- what is given after what was given: the outputs of all quanta join to the kind's function of
-- whole streams
abbrev pub Joins : Kind → KindInputs → KindInputs → ℕ → List ℤ → Type 0
Joins kind before after output new = (length new ≡ 0)
    ⊎ (kind_output kind after output ≡ kind_output kind before output ++ new)

-- the stream that a node keeps: a sink's whole input
abbrev pub stream_kept_by : Kind → KindInputs → List ℤ
stream_kept_by K.Sink h = h.a
stream_kept_by _ h = []

-- the peak that a node keeps: that of a meter's whole input
abbrev pub peak_kept_by : Kind → KindInputs → ℕ
peak_kept_by K.Meter h = peak_of h.a
peak_kept_by _ h = 0
