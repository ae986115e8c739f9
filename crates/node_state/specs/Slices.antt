-- Slices: how many samples each port of a node brings or takes in one quantum. Interleaved, first
-- channel first.
-- Source: this project's table of nodes and ports; a port without a form has an empty slice.
use Rattle.std.specs.Prelude.{◌≡◌, ℕ, ◌<◌, ◌*◌, List, ℤ, length, ◌⊎◌}
use Rattle.pw_graph.specs.declared.kind.Kind.{Kind}
use Rattle.pw_graph.specs.declared.kind.Kind.TheVariants.{Source, Square, Gain, Mix2, Delay, Map, Split, Sink, Meter, Dummy}
use Rattle.pw_graph.specs.KindPorts.{input_count}
use Rattle.pw_graph.specs.KindRanges.{MayHaveChannels}

-- the channels at the first input, where the node has n there
abbrev pub first_channels : Kind → ℕ → ℕ
first_channels Source n = 0
first_channels (Square rate channels period amp) n = 0
first_channels (Gain g) n = n
first_channels (Mix2 ga gb) n = n
first_channels (Delay frames) n = n
first_channels (Map channels list) n = channels
first_channels Split n = 2
first_channels Sink n = n
first_channels Meter n = n
first_channels Dummy n = 0

-- the channels at the second input
abbrev pub second_channels : Kind → ℕ → ℕ
second_channels (Mix2 ga gb) n = n
second_channels _ n = 0

-- the channels at the first output, where the node's wave has w
abbrev pub left_channels : Kind → ℕ → ℕ → ℕ
left_channels Source w n = w
left_channels (Square rate channels period amp) w n = channels
left_channels (Gain g) w n = n
left_channels (Mix2 ga gb) w n = n
left_channels (Delay frames) w n = n
left_channels (Map channels list) w n = length list
left_channels Split w n = 1
left_channels Sink w n = 0
left_channels Meter w n = 0
left_channels Dummy w n = 0

-- the channels at the second output
abbrev pub right_channels : Kind → ℕ
right_channels Split = 1
right_channels _ = 0

-- nothing, or n samples
abbrev pub IsNoneOr : ℕ → List ℤ → Type 0
IsNoneOr n row = (length row ≡ 0) ⊎ (length row ≡ n)

-- `frames` frames at each input, and at each output as many or, without a form, none
abbrev pub HaveFrames : ℕ → Kind → ℕ → ℕ → List ℤ → List ℤ → List ℤ
    → List ℤ → Type 0
HaveFrames frames kind w n a b left right =
    (length a ≡ frames * first_channels kind n) × (length b ≡ frames * second_channels kind n)
    × IsNoneOr (frames * left_channels kind w n) left
    × IsNoneOr (frames * right_channels kind) right

-- the channels that a node may have at its first input: none, or what the kind allows there; none
-- without an input
abbrev pub AllowsChannels : Kind → ℕ → Type 0
AllowsChannels kind n = (n ≡ 0) ⊎ ((0 < input_count kind) × MayHaveChannels kind 0 n)
