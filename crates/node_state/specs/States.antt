-- States: the kind of a state, and the room in it.
-- Source: this project's node states.
use Rattle.std.specs.Prelude.{ℕ, ◌+◌, ◌*◌, List, [], ℤ, length}
use Rattle.pw_graph.specs.declared.kind.Kind.{Kind}
use Rattle.pw_graph.specs.declared.kind.Kind.TheVariants as K
use Rattle.node_state.specs.declared.kind_state.KindState.{KindState}
use Rattle.node_state.specs.declared.kind_state.KindState.TheVariants.{Source, Square, Gain, Mix2, Delay, Map, Split, Sink, Meter}

-- the kind that a state was made for
abbrev pub kind_of : KindState → Kind
kind_of (Source s) = K.Source
kind_of (Square s) = K.Square s.wave.rate s.wave.channels s.wave.period s.wave.amp
kind_of (Gain s) = K.Gain s.g
kind_of (Mix2 s) = K.Mix2 s.ga s.gb
kind_of (Delay s) = K.Delay s.frames
kind_of (Map s) = K.Map s.channels s.list
kind_of (Split s) = K.Split
kind_of (Sink s) = K.Sink
kind_of (Meter s) = K.Meter

-- the channels of a source's wave
abbrev pub wave_channels : KindState → ℕ
wave_channels (Source s) = s.channels
wave_channels _ = 0

-- the stream that a sink keeps
abbrev pub stream_of : KindState → List ℤ
stream_of (Sink s) = s.list
stream_of _ = []

-- the peak that a meter keeps
abbrev pub peak_so_far : KindState → ℕ
peak_so_far (Meter s) = s.peak
peak_so_far _ = 0

-- the samples that a state has room for
abbrev pub room_in : KindState → ℕ
room_in (Delay s) = s.room
room_in (Sink s) = length s.list + s.spare
room_in _ = 0

-- the samples that it may have to keep, by the channels and by the frames in all
abbrev pub wanted_room : KindState → ℕ → ℕ → ℕ
wanted_room (Delay s) channels frames = s.long * channels
wanted_room (Sink s) channels frames = frames * channels
wanted_room _ channels frames = 0
