-- Steps: what one quantum asks of the slices, does to a state, and gives at each output.
-- Source: this project's node states.
use Rattle.std.specs.Prelude.{◌≡◌, ℕ, ◌+◌, ◌*◌, ◌/◌, ◌%◌, ◌≤◌, min, max, List, [], ◌∷◌, ◌++◌, length, map, zip, take}
use Rattle.std.specs.Prelude.{drop, ℤ}
use Rattle.pw_lists.specs.Samples.{scaled, mixed, silence, of_frames, picked, peak_of}
use Rattle.pw_graph.specs.KindFunction.{square_at}
use Rattle.node_state.specs.declared.kind_state.KindState.{KindState}
use Rattle.node_state.specs.declared.kind_state.KindState.TheVariants.{Source, Square, Gain, Mix2, Delay, Map, Split, Sink, Meter}
use Rattle.node_state.specs.Slices.{IsNoneOr}

-- the lengths of the slices fit together
abbrev pub CanStep : KindState → ℕ → List ℤ → List ℤ → List ℤ → List ℤ
    → Type 0
CanStep (Source s) quantum a b left right = IsNoneOr (quantum * s.channels) left × IsNoneOr 0 right
CanStep (Square s) quantum a b left right = IsNoneOr (quantum * s.wave.channels) left
    × IsNoneOr 0 right
CanStep (Gain s) quantum a b left right = IsNoneOr (length a) left × IsNoneOr 0 right
CanStep (Mix2 s) quantum a b left right = (length b ≡ length a) × IsNoneOr (length a) left
    × IsNoneOr 0 right
CanStep (Delay s) quantum a b left right = IsNoneOr (length a) left × IsNoneOr 0 right
CanStep (Map s) quantum a b left right = (length a % s.channels ≡ 0)
    × IsNoneOr (length a / s.channels * length s.list) left × IsNoneOr 0 right
CanStep (Split s) quantum a b left right = (length a % 2 ≡ 0) × IsNoneOr (length a / 2) left
    × IsNoneOr (length a / 2) right
CanStep (Sink s) quantum a b left right = (length a ≤ s.spare) × IsNoneOr 0 left
    × IsNoneOr 0 right
CanStep (Meter s) quantum a b left right = IsNoneOr 0 left × IsNoneOr 0 right

-- the samples of one quantum at an output, outputs counted from 0
abbrev pub given_by : KindState → ℕ → List ℤ → List ℤ → ℕ → List ℤ
given_by (Source s) quantum a b output = take (quantum * s.channels)
    (drop s.given s.samples ++ silence (quantum * s.channels))
given_by (Square s) quantum a b output = of_frames quantum s.wave.channels
    (λ i j. square_at s.wave.period s.wave.amp (s.phase + i))
given_by (Gain s) quantum a b output = map (scaled s.g) a
given_by (Mix2 s) quantum a b output = map (λ p. mixed s.ga s.gb p.0 p.1) (zip a b)
given_by (Delay s) quantum a b output = take (length a) (s.samples ++ a)
given_by (Map s) quantum a b output = picked s.channels s.list a
given_by (Split s) quantum a b output = picked 2 (output ∷ []) a
given_by (Sink s) quantum a b output = []
given_by (Meter s) quantum a b output = []

-- the state before and after one quantum
abbrev pub IsStep : ℕ → List ℤ → KindState → KindState → Type 0
IsStep quantum a (Source s) (Source t) =
    (t.channels ≡ s.channels) × (t.samples ≡ s.samples)
    × (t.given ≡ min (s.given + quantum * s.channels) (length s.samples))
IsStep quantum a (Square s) (Square t) = (t.wave ≡ s.wave)
    × (t.phase ≡ (s.phase + quantum) % s.wave.period)
IsStep quantum a (Gain s) (Gain t) = t ≡ s
IsStep quantum a (Mix2 s) (Mix2 t) = t ≡ s
IsStep quantum a (Delay s) (Delay t) = t ≡ record s { samples = drop (length a) (s.samples ++ a) }
IsStep quantum a (Map s) (Map t) = t ≡ s
IsStep quantum a (Split s) (Split t) = t ≡ s
IsStep quantum a (Sink s) (Sink t) = (t.list ≡ s.list ++ a) × (s.spare ≤ t.spare + length a)
IsStep quantum a (Meter s) (Meter t) = t.peak ≡ max s.peak (peak_of a)
IsStep quantum a _ _ = ⊥
