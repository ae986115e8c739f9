-- Kept: after one quantum a state stands for what it stood for and the quantum after it.
use Rattle.std.proofs.Common.{◌≡◌, ℕ, ◌+◌, ◌*◌, ◌%◌, ◌≤◌, ◌∙◌, min, max, List, ◌++◌, length, take, drop, ℤ, refl, sym, ap}
use Rattle.std.proofs.Common.{ap₂, subst, arith, length-append, append_assoc, drop-drop, mul-le-mul_right, inl, inr}
use Rattle.std.proofs.lemmas.Grind.{common_steps}
use Rattle.std.proofs.lemmas.List.{drop-append-le}
use Rattle.std.proofs.Math.Nat.{mod-add-mod}
use Rattle.pw_lists.specs.Samples.{silence, peak_of}
use Rattle.pw_graph.specs.KindFunction.{KindInputs}
use Rattle.s16_mixer.proofs.PeakLemmas.{peak_append}
use Rattle.node_state.specs.declared.kind_state.KindState.{KindState}
use Rattle.node_state.specs.declared.kind_state.KindState.TheVariants.{Source, Square, Gain, Mix2, Delay, Map, Split, Sink, Meter}
use Rattle.node_state.specs.States.{kind_of, wave_channels, stream_of, room_in, wanted_room}
use Rattle.node_state.specs.working.Steps.{CanStep, IsStep}
use Rattle.node_state.specs.declared.node_state.NodeState.{NodeState}
use Rattle.node_state.specs.working.Line.{Line}
use Rattle.node_state.specs.Slices.{HaveFrames}
use Rattle.node_state.specs.StandsFor.{Keeps, IsQuantum}
use Rattle.node_state.specs.Streams.{followed, stream_kept_by}
use Rattle.node_state.proofs.SliceLemmas.{BringsFew}

-- whole frames and whole frames
whole_joined : (xs ys : List ℤ) (channels : ℕ) → length xs % channels ≡ 0 → length ys % channels ≡ 0 → length (xs ++ ys) % channels ≡ 0
whole_joined xs ys channels e g =
    ap (λ n. n % channels) (length-append xs ys) ∙ sym (mod-add-mod (length xs) channels (length ys))
    ∙ ap (λ n. (n + length ys) % channels) e
    ∙ let none : 0 + length ys ≡ length ys = omega arith in ap (λ n. n % channels) none ∙ g

-- a line that one row has gone into
line_more : (zeros row more : List ℤ) → drop (length more) (drop (length row) (zeros ++ row) ++ more)
    ≡ drop (length (row ++ more)) (zeros ++ (row ++ more))
line_more zeros row more =
    let within : length row ≤ length (zeros ++ row) = grind (arith, common_steps) in
    ap (drop (length more)) (sym (drop-append-le (length row) (zeros ++ row) more within))
    ∙ drop-drop (length more) (length row) ((zeros ++ row) ++ more)
    ∙ ap₂ drop (sym (length-append row more)) (append_assoc zeros row more)

pub keeps_on : (s t : KindState) (channels prepared quantum : ℕ) (a b left right : List ℤ) (h : KindInputs) → CanStep s quantum a b left right
    → BringsFew s (quantum * channels) a → IsStep quantum a s t → Keeps s channels prepared h
    → Keeps t channels prepared (followed quantum a b h)
keeps_on (Source s) (Source t) channels prepared quantum a b left right h can few step kept =
    let c = s.channels in
    let sum : (h.frames + quantum) * c ≡ h.frames * c + quantum * c = omega arith in (
      step.0 ∙ kept.0,
      step.1 ∙ kept.1 ∙ ap (λ k. take (prepared * k) h.wave) (sym step.0),
      step.2 ∙ ap (λ k. min (k + quantum * c) (length s.samples)) kept.2 ∙ omega (arith, sum)
          ∙ ap₂ (λ k r. min ((h.frames + quantum) * k) (length r)) (sym step.0) (sym step.1),
    )
keeps_on (Square s) (Square t) channels prepared quantum a b left right h can few step kept = (
  ap (λ w. w.channels) step.0 ∙ kept.0,
  step.1 ∙ ap (λ k. (k + quantum) % s.wave.period) kept.1 ∙ mod-add-mod h.frames s.wave.period quantum
      ∙ ap (λ w. (h.frames + quantum) % w.period) (sym step.0),
)
keeps_on (Gain s) (Gain t) channels prepared quantum a b left right h can few step kept = tt
keeps_on (Mix2 s) (Mix2 t) channels prepared quantum a b left right h can few step kept = length-append h.a a
    ∙ ap₂ (λ n m. n + m) kept (sym can.0) ∙ sym (length-append h.b b)
keeps_on (Delay s) (Delay t) channels prepared quantum a b left right h can few step kept = (
  kept.0,
  (let long = length-append h.a a in let sum : (h.frames + quantum) * channels ≡ h.frames * channels + quantum * channels = omega arith in
      omega (arith, long, sum, few, kept.1)),
  ap (λ l. l.long) step ∙ kept.2 ∙ ap (λ l. min l.frames prepared) (sym step),
  ap (λ l. l.samples) step ∙ ap (λ r. drop (length a) (r ++ a)) kept.3 ∙ line_more (silence (s.long * channels)) h.a a
      ∙ ap (λ l. drop (length (h.a ++ a)) (silence (l.long * channels) ++ (h.a ++ a))) (sym step),
)
keeps_on (Map s) (Map t) channels prepared quantum a b left right h can few step kept =
    ap (λ m. length (h.a ++ a) % m.channels) step ∙ whole_joined h.a a s.channels kept can.0
keeps_on (Split s) (Split t) channels prepared quantum a b left right h can few step kept = whole_joined h.a a 2 kept can.0
keeps_on (Sink s) (Sink t) channels prepared quantum a b left right h can few step kept = step.0 ∙ ap (λ r. r ++ a) kept
keeps_on (Meter s) (Meter t) channels prepared quantum a b left right h can few step kept = step ∙ ap (λ n. max n (peak_of a)) kept
    ∙ sym (peak_append h.a a)
keeps_on _ _ channels prepared quantum a b left right h can few step kept = absurd step

-- a sink's stream grows by no more than the quantum
stream_more : (s t : KindState) (quantum frames channels before : ℕ) (a b left right : List ℤ) → frames ≤ quantum
    → HaveFrames frames (kind_of s) (wave_channels s) channels a b left right → IsStep quantum a s t
    → length (stream_of s) ≤ before * channels → length (stream_of t) ≤ (before + quantum) * channels
stream_more (Source s) (Source t) quantum frames channels before a b left right few have step h = omega arith
stream_more (Square s) (Square t) quantum frames channels before a b left right few have step h = omega arith
stream_more (Gain s) (Gain t) quantum frames channels before a b left right few have step h = omega arith
stream_more (Mix2 s) (Mix2 t) quantum frames channels before a b left right few have step h = omega arith
stream_more (Delay s) (Delay t) quantum frames channels before a b left right few have step h = omega arith
stream_more (Map s) (Map t) quantum frames channels before a b left right few have step h = omega arith
stream_more (Split s) (Split t) quantum frames channels before a b left right few have step h = omega arith
stream_more (Sink s) (Sink t) quantum frames channels before a b left right few have step h =
    let long : length t.list ≡ length s.list + length a = ap length step.0 ∙ length-append s.list a in
    let wide : frames * channels ≤ quantum * channels = mul-le-mul_right channels few in
    let sum : (before + quantum) * channels ≡ before * channels + quantum * channels = omega arith in
    omega (arith, long, wide, sum, have.0, h)
stream_more (Meter s) (Meter t) quantum frames channels before a b left right few have step h = omega arith
stream_more _ _ quantum frames channels before a b left right few have step h = absurd step

pub stream_on : (s : NodeState) (t : KindState) (a b left right : List ℤ) → IsQuantum s a b left right → IsStep s.quantum a s.state t
    → length (stream_of t) ≤ (s.frames + s.quantum) * s.channels
stream_on s t a b left right (inl h) step = stream_more s.state t s.quantum s.quantum s.channels s.frames a b left right
    (omega arith) h step s.stream
stream_on s t a b left right (inr h) step = stream_more s.state t s.quantum 0 s.channels s.frames a b left right
    (omega arith) h step s.stream

-- and there is as much room as before
pub room_on : (s t : KindState) (quantum most prepared : ℕ) (a : List ℤ) → IsStep quantum a s t → wanted_room s most prepared ≤ room_in s
    → wanted_room t most prepared ≤ room_in t
room_on (Source s) (Source t) quantum most prepared a step h = h
room_on (Square s) (Square t) quantum most prepared a step h = h
room_on (Gain s) (Gain t) quantum most prepared a step h = h
room_on (Mix2 s) (Mix2 t) quantum most prepared a step h = h
room_on (Delay s) (Delay t) quantum most prepared a step h = let P : Line → Type 0 = λ l. l.long * most ≤ l.room in subst P (sym step) h
room_on (Map s) (Map t) quantum most prepared a step h = h
room_on (Split s) (Split t) quantum most prepared a step h = h
room_on (Sink s) (Sink t) quantum most prepared a step h = let long : length t.list ≡ length s.list + length a = ap length step.0
    ∙ length-append s.list a in omega (arith, long, step.1, h)
room_on (Meter s) (Meter t) quantum most prepared a step h = h
room_on _ _ quantum most prepared a step h = absurd step

-- what a state keeps for its node's file is what the node has received of it: nothing but in a sink
pub kept_is_stream : (s : KindState) (channels prepared : ℕ) (h : KindInputs) → Keeps s channels prepared h
    → stream_of s ≡ stream_kept_by (kind_of s) h
kept_is_stream (Source s) channels prepared h kept = refl
kept_is_stream (Square s) channels prepared h kept = refl
kept_is_stream (Gain s) channels prepared h kept = refl
kept_is_stream (Mix2 s) channels prepared h kept = refl
kept_is_stream (Delay s) channels prepared h kept = refl
kept_is_stream (Map s) channels prepared h kept = refl
kept_is_stream (Split s) channels prepared h kept = refl
kept_is_stream (Sink s) channels prepared h kept = kept
kept_is_stream (Meter s) channels prepared h kept = refl
