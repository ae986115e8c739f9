-- Slices: that those of a quantum fit the state, and how long what is given is.
use Rattle.std.proofs.Common.{◌≡◌, ℕ, ◌+◌, ◌*◌, ◌/◌, ◌%◌, ◌<◌, ◌≤◌, ◌∙◌, List, [], ◌∷◌, length, ℤ, ◌⊎◌}
use Rattle.std.proofs.Common.{inl, inr, slice_index, sym, ap, arith, refl, mul-le-mul_left, mul-le-mul_right}
use Rattle.std.proofs.lemmas.Grind.{common_steps}
use Rattle.std.proofs.Math.Nat.{mul-mod_left, mul-div_cancel}
use Rattle.std.proofs.lemmas.List.FromFn.{length-map-range_with_len}
use Rattle.std.proofs.lemmas.Slice.Zip.{length-zip}
use Rattle.pw_lists.specs.Samples.{of_frames, picked, sample_at}
use Rattle.pw_graph.specs.KindFunction.{square_at}
use Rattle.node_state.specs.declared.kind_state.KindState.{KindState}
use Rattle.node_state.specs.declared.kind_state.KindState.TheVariants.{Source, Square, Gain, Mix2, Delay, Map, Split, Sink, Meter}
use Rattle.node_state.specs.Slices.{IsNoneOr, HaveFrames}
use Rattle.node_state.specs.States.{kind_of, wave_channels, stream_of, room_in, wanted_room}
use Rattle.node_state.specs.declared.node_state.NodeState.{NodeState}
use Rattle.node_state.specs.working.Steps.{CanStep, given_by}
use Rattle.node_state.specs.StandsFor.{IsQuantum}

-- as many as the one number are as many as the other
as_many : {n m : ℕ} (row : List ℤ) → n ≡ m → IsNoneOr n row → IsNoneOr m row
as_many row e (inl none) = inl none
as_many row e (inr all) = inr (all ∙ e)

-- no samples of no frame
none_of : {n m : ℕ} (row : List ℤ) → n ≡ 0 → IsNoneOr n row → IsNoneOr m row
none_of row e (inl none) = inl none
none_of row e (inr all) = inl (all ∙ e)

times_none : (frames channels : ℕ) → frames ≡ 0 → frames * channels ≡ 0
times_none frames channels e = let product = ap (λ n. n * channels) e in omega (arith, product)

-- how long n frames are
frames_long : (frames channels : ℕ) (f : ℕ → ℕ → ℤ) → length (of_frames frames channels f) ≡ frames * channels
frames_long frames channels f = length-map-range_with_len _ 0 (frames * channels)

picked_long : (channels : ℕ) (list : List ℕ) (row : List ℤ) → length (picked channels list row) ≡ length row / channels * length list
picked_long channels list row = frames_long (length row / channels) (length list) (λ i j. sample_at channels row i (slice_index list j))

-- a sink has room for n samples more
abbrev pub IsRoomy : KindState → ℕ → Type 0
IsRoomy (Sink s) n = n ≤ s.spare
IsRoomy _ n = Unit {0}

pub roomy : (s : KindState) (most prepared frames channels quantum : ℕ) → wanted_room s most prepared ≤ room_in s
    → length (stream_of s) ≤ frames * channels → channels ≤ most → frames + quantum ≤ prepared
    → IsRoomy s (quantum * channels)
roomy (Source s) most prepared frames channels quantum room stream h g = tt
roomy (Square s) most prepared frames channels quantum room stream h g = tt
roomy (Gain s) most prepared frames channels quantum room stream h g = tt
roomy (Mix2 s) most prepared frames channels quantum room stream h g = tt
roomy (Delay s) most prepared frames channels quantum room stream h g = tt
roomy (Map s) most prepared frames channels quantum room stream h g = tt
roomy (Split s) most prepared frames channels quantum room stream h g = tt
roomy (Sink s) most prepared frames channels quantum room stream h g =
    let wide : (frames + quantum) * channels ≤ prepared * channels = mul-le-mul_right channels g in
    let more : prepared * channels ≤ prepared * most = mul-le-mul_left prepared h in
    let sum : (frames + quantum) * channels ≡ frames * channels + quantum * channels = omega arith in
    omega (arith, wide, more, sum, room, stream)
roomy (Meter s) most prepared frames channels quantum room stream h g = tt

-- the slices of n frames fit the state
pub can_step : (s : KindState) (quantum frames channels : ℕ) (a b left right : List ℤ) → (frames ≡ quantum) ⊎ (frames ≡ 0)
    → IsRoomy s (quantum * channels)
    → HaveFrames frames (kind_of s) (wave_channels s) channels a b left right → CanStep s quantum a b left right
can_step (Source s) quantum frames channels a b left right e room h = (outputs e h.2, none_of right (omega arith) h.3)
  where
    outputs : (frames ≡ quantum) ⊎ (frames ≡ 0) → IsNoneOr (frames * s.channels) left → IsNoneOr (quantum * s.channels) left
    outputs (inl all) g = as_many left (ap (λ n. n * s.channels) all) g
    outputs (inr none) g = none_of left (times_none frames s.channels none) g
can_step (Square s) quantum frames channels a b left right e room h = (outputs e h.2, none_of right (omega arith) h.3)
  where
    outputs : (frames ≡ quantum) ⊎ (frames ≡ 0) → IsNoneOr (frames * s.wave.channels) left → IsNoneOr (quantum * s.wave.channels) left
    outputs (inl all) g = as_many left (ap (λ n. n * s.wave.channels) all) g
    outputs (inr none) g = none_of left (times_none frames s.wave.channels none) g
can_step (Gain s) quantum frames channels a b left right e room h = (as_many left (sym h.0) h.2, none_of right (omega arith) h.3)
can_step (Mix2 s) quantum frames channels a b left right e room h =
    (h.1 ∙ sym h.0, as_many left (sym h.0) h.2, none_of right (omega arith) h.3)
can_step (Delay s) quantum frames channels a b left right e room h = (as_many left (sym h.0) h.2, none_of right (omega arith) h.3)
can_step (Map s) quantum frames channels a b left right e room h =
    let some : 0 < s.channels = omega arith in
    let count : length a / s.channels ≡ frames = ap (λ n. n / s.channels) h.0 ∙ mul-div_cancel frames some in (
      ap (λ n. n % s.channels) h.0 ∙ mul-mod_left frames s.channels,
      as_many left (ap (λ n. n * length s.list) (sym count)) h.2,
      none_of right (omega arith) h.3,
    )
can_step (Split s) quantum frames channels a b left right e room h =
    let count : length a / 2 ≡ frames = ap (λ n. n / 2) h.0 ∙ mul-div_cancel frames (omega arith) in
    let one : frames * 1 ≡ length a / 2 = omega (arith, count) in
    (ap (λ n. n % 2) h.0 ∙ mul-mod_left frames 2, as_many left one h.2, as_many right one h.3)
can_step (Sink s) quantum frames channels a b left right e room h =
    (fits e, none_of left (omega arith) h.2, none_of right (omega arith) h.3)
  where
    fits : (frames ≡ quantum) ⊎ (frames ≡ 0) → length a ≤ s.spare
    fits (inl all) = let n = h.0 ∙ ap (λ n. n * channels) all in omega (arith, n, room)
    fits (inr none) = let n = h.0 ∙ ap (λ n. n * channels) none in omega (arith, n)
can_step (Meter s) quantum frames channels a b left right e room h = (none_of left (omega arith) h.2, none_of right (omega arith) h.3)

-- no more than a quantum goes to a delay
abbrev pub BringsFew : KindState → ℕ → List ℤ → Type 0
BringsFew (Delay s) n a = length a ≤ n
BringsFew _ n a = Unit {0}

brings : (s : KindState) (quantum frames channels : ℕ) (a b left right : List ℤ) → frames ≤ quantum
    → HaveFrames frames (kind_of s) (wave_channels s) channels a b left right → BringsFew s (quantum * channels) a
brings (Source s) quantum frames channels a b left right few h = tt
brings (Square s) quantum frames channels a b left right few h = tt
brings (Gain s) quantum frames channels a b left right few h = tt
brings (Mix2 s) quantum frames channels a b left right few h = tt
brings (Delay s) quantum frames channels a b left right few h = let wide : frames * channels ≤ quantum * channels = mul-le-mul_right channels few in
    omega (arith, wide, h.0)
brings (Map s) quantum frames channels a b left right few h = tt
brings (Split s) quantum frames channels a b left right few h = tt
brings (Sink s) quantum frames channels a b left right few h = tt
brings (Meter s) quantum frames channels a b left right few h = tt

pub brings_few : (s : NodeState) (a b left right : List ℤ) → IsQuantum s a b left right → BringsFew s.state (s.quantum * s.channels) a
brings_few s a b left right (inl h) = brings s.state s.quantum s.quantum s.channels a b left right (omega arith) h
brings_few s a b left right (inr h) = brings s.state s.quantum 0 s.channels a b left right (omega arith) h

-- an output has nothing or all that is given
pub left_whole : (s : KindState) (quantum : ℕ) (a b left right : List ℤ) → CanStep s quantum a b left right
    → IsNoneOr (length (given_by s quantum a b 0)) left
left_whole (Source s) quantum a b left right h = as_many left (grind (arith, common_steps)) h.0
left_whole (Square s) quantum a b left right h = as_many left
    (sym (frames_long quantum s.wave.channels (λ i j. square_at s.wave.period s.wave.amp (s.phase + i)))) h.0
left_whole (Gain s) quantum a b left right h = as_many left (grind (arith, common_steps)) h.0
left_whole (Mix2 s) quantum a b left right h = as_many left (grind (arith, common_steps, length-zip a b, h.0)) h.1
left_whole (Delay s) quantum a b left right h = as_many left (grind (arith, common_steps)) h.0
left_whole (Map s) quantum a b left right h = as_many left (sym (picked_long s.channels s.list a)) h.1
left_whole (Split s) quantum a b left right h = as_many left
    (let one : length a / 2 ≡ length a / 2 * 1 = omega arith in one ∙ sym (picked_long 2 (0 ∷ []) a)) h.1
left_whole (Sink s) quantum a b left right h = h.1
left_whole (Meter s) quantum a b left right h = h.0

pub right_whole : (s : KindState) (quantum : ℕ) (a b left right : List ℤ) → CanStep s quantum a b left right
    → IsNoneOr (length (given_by s quantum a b 1)) right
right_whole (Source s) quantum a b left right h = none_of right refl h.1
right_whole (Square s) quantum a b left right h = none_of right refl h.1
right_whole (Gain s) quantum a b left right h = none_of right refl h.1
right_whole (Mix2 s) quantum a b left right h = none_of right refl h.2
right_whole (Delay s) quantum a b left right h = none_of right refl h.1
right_whole (Map s) quantum a b left right h = none_of right refl h.2
right_whole (Split s) quantum a b left right h = as_many right
    (let one : length a / 2 ≡ length a / 2 * 1 = omega arith in one ∙ sym (picked_long 2 (1 ∷ []) a)) h.2
right_whole (Sink s) quantum a b left right h = h.2
right_whole (Meter s) quantum a b left right h = h.1

-- what a quantum brings fits the state of a node that has room for it
pub quantum_fits : (s : NodeState) (a b left right : List ℤ) → IsQuantum s a b left right → s.frames + s.quantum ≤ s.prepared
    → CanStep s.state s.quantum a b left right
quantum_fits s a b left right (inl h) within =
    can_step s.state s.quantum s.quantum s.channels a b left right (inl refl)
    (roomy s.state s.most s.prepared s.frames s.channels s.quantum s.room s.stream s.channels_range within) h
quantum_fits s a b left right (inr h) within =
    can_step s.state s.quantum 0 s.channels a b left right (inr refl)
    (roomy s.state s.most s.prepared s.frames s.channels s.quantum s.room s.stream s.channels_range within) h
