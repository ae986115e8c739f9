-- Automation: a stream by the gains of points in time. S16 PCM, interleaved; gains are factors in
-- 1/256.
-- Source: spa/control/control.h (offsets in frames); that a gain holds until the next point is this
-- project's.
use Rattle.std.specs.Prelude.{◌≡◌, ℕ, ◌+◌, ◌/◌, ◌<◌, ◌≤◌, List, map, fold, drop, length, ℤ, pos, nat_le, slice_index_or, All, AllPairs, refl}
use Rattle.std.specs.Prelude.{if◌then◌else◌}
use Rattle.std.specs.List.{enumerate_from}
use Rattle.std.specs.Coded.{Coded, code_by, coded×, coded_list, coded_ℕ, coded_ℤ}
use Rattle.pw_lists.specs.Samples.{IsGain}
use Rattle.pw_lists.specs.Samples.{scaled}
use Rattle.control_sequence.specs.declared.points.Point.{Point}

-- points: gains in range, and offsets that do not fall
abbrev pub ArePoints : List Point → Type 0
ArePoints points = All (λ p. IsGain p.g) points × AllPairs (λ p q. p.offset ≤ q.offset) points

-- the gain of frame i by points, where it was g before them: that of the last one whose offset is
-- at most i
abbrev pub gain_after : ℤ → List Point → ℕ → ℤ
gain_after g points i = fold (λ h p. if nat_le p.offset i then p.g else h) g points

-- GAIN of frame i: before the first point 256, which changes nothing
abbrev pub gain_at : List Point → ℕ → ℤ
gain_at points i = gain_after (pos 256) points i

-- AUTOMATED STREAM, whose first frame has the number `first`: each sample by the gain of its frame
abbrev pub automated : List Point → ℕ → ℕ → List ℤ → List ℤ
automated points channels first samples =
    map (λ s. scaled (gain_at points (first + s.0 / channels)) s.1) (enumerate_from 0 samples)

-- a stream under way: its points, its channels, and how many frames it has had
pub record Stream : Type 0 where
  pub points : List Point
  pub channels : ℕ
  pub frames : ℕ

-- it is stored as the tuple of its fields
abbrev pub coded_point : Coded Point
coded_point = code_by (ℕ × ℤ) (coded× coded_ℕ coded_ℤ) (λ p. (p.offset, p.g))
    (λ c. record { offset = c.0; g = c.1 }) (λ _. refl)

abbrev pub coded_stream : Coded Stream
coded_stream = code_by (List Point × (ℕ × ℕ))
    (coded× (coded_list coded_point) (coded× coded_ℕ coded_ℕ))
    (λ s. (s.points, (s.channels, s.frames)))
    (λ c. record { points = c.0; channels = c.1.0; frames = c.1.1 }) (λ _. refl)

-- the points before `next` are passed at frame i: from there on the gain is that of the points
-- left, or g
abbrev pub AreBehind : List Point → ℕ → ℕ → ℤ → Type 0
AreBehind points frame next g = (next ≤ length points) × IsGain g
    × ((i : ℕ) → frame ≤ i → gain_after g (drop next points) i ≡ gain_at points i)

-- the next point is at or after frame i
abbrev pub IsBefore : List Point → ℕ → ℕ → Type 0
IsBefore points next i = (d : Point) → next < length points
    → i ≤ (slice_index_or points next d).offset
