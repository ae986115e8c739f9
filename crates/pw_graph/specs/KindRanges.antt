-- Ranges of kinds: the numbers of a node, and the rates and channels that its ports may have.
-- Source: this project's script grammar and its table of nodes and ports.
use Rattle.std.specs.Prelude.{◌≡◌, ℕ, zero, suc, ◌<◌, ◌≤◌, length, All, ℤ, pos, ◌≤ℤ◌}
use Rattle.pw_graph.specs.declared.kind.Kind.{Kind}
use Rattle.pw_graph.specs.declared.kind.Kind.TheVariants.{Source, Square, Gain, Mix2, Delay, Map, Split, Sink, Meter, Dummy}
use Rattle.pw_lists.specs.Limits.{rate_limit, channels_limit, period_limit, delay_limit, amp_limit}
pub use Rattle.pw_lists.specs.Samples.{IsGain}
use Rattle.pw_graph.specs.SoundShape.{IsBetween}

abbrev pub IsRate : ℕ → Type 0
IsRate rate = IsBetween 1 rate_limit rate

abbrev pub IsChannels : ℕ → Type 0
IsChannels channels = IsBetween 1 channels_limit channels

-- the numbers of a kind are in the ranges of the script; the dummy is no node of a script
abbrev pub IsInRange : Kind → Type 0
IsInRange Source = Unit {0}
IsInRange (Square rate channels period amp) = IsRate rate × IsChannels channels
    × IsBetween 1 period_limit period
    × (pos 0 ≤ℤ amp) × (amp ≤ℤ pos amp_limit)
IsInRange (Gain g) = IsGain g
IsInRange (Mix2 ga gb) = IsGain ga × IsGain gb
IsInRange (Delay frames) = frames ≤ delay_limit
IsInRange (Map channels list) = IsChannels channels × IsBetween 1 channels_limit (length list)
    × All (λ c. c < channels) list
IsInRange Split = Unit {0}
IsInRange Sink = Unit {0}
IsInRange Meter = Unit {0}
IsInRange Dummy = ⊥

-- which channels a port may have, by the kind only: ports are numbered inputs first
abbrev pub MayHaveChannels : Kind → ℕ → ℕ → Type 0
MayHaveChannels (Square rate channels period amp) port n = n ≡ channels
MayHaveChannels (Map channels list) zero n = n ≡ channels
MayHaveChannels (Map channels list) (suc port) n = n ≡ length list
MayHaveChannels Split zero n = n ≡ 2
MayHaveChannels Split (suc port) n = n ≡ 1
MayHaveChannels _ port n = IsChannels n

-- which rate a port may have
abbrev pub MayHaveRate : Kind → ℕ → Type 0
MayHaveRate (Square rate channels period amp) n = n ≡ rate
MayHaveRate _ n = IsRate n

-- whether all ports have the same channels
abbrev pub SharesChannels : Kind → Type 0
SharesChannels (Gain g) = Unit {0}
SharesChannels (Mix2 ga gb) = Unit {0}
SharesChannels (Delay frames) = Unit {0}
SharesChannels _ = ⊥

abbrev pub IsSinkOrMeter : Kind → Type 0
IsSinkOrMeter Sink = Unit {0}
IsSinkOrMeter Meter = Unit {0}
IsSinkOrMeter _ = ⊥
