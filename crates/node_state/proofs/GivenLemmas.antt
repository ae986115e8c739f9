-- Given: what a state gives is what the kind's function of the streams gains by this quantum.
use Rattle.std.proofs.Common.{◌≡◌, ℕ, ◌+◌, ◌-◌, ◌*◌, ◌/◌, ◌%◌, ◌<◌, ◌≤◌, ◌∙◌, min, All, List, [], ◌∷◌}
use Rattle.std.proofs.Common.{◌++◌, length, take, drop, map, zip, ℤ, pos, ◌⊎◌, inl, inr, ⊎_elim, refl, sym, ap, ap₂, subst, arith, length-append}
use Rattle.std.proofs.Common.{append_assoc, take-add, take_all, mul-le-mul_right}
use Rattle.std.proofs.lemmas.Grind.{common_steps}
use Rattle.std.proofs.lemmas.Bool.{cases_lt}
use Rattle.std.proofs.lemmas.List.{map-append, take-append-le, drop-append-le, length-replicate, take-replicate}
use Rattle.std.proofs.Math.Nat.{mod-add-mod, mod-add-div'}
use Rattle.std.proofs.Math.Seq.{drop-length, drop-append_seam}
use Rattle.pw_graph.specs.declared.kind.Kind.{Kind}
use Rattle.pw_lists.specs.Samples.{scaled, mixed, silence, of_frames}
use Rattle.pw_graph.specs.KindFunction.{KindInputs, kind_output, square_at}
use Rattle.s16_mixer.proofs.FrameLemmas.{of_frames-add, picked_append}
use Rattle.node_state.specs.declared.kind_state.KindState.{KindState}
use Rattle.node_state.specs.declared.kind_state.KindState.TheVariants.{Source, Square, Gain, Mix2, Delay, Map, Split, Sink, Meter}
use Rattle.node_state.specs.States.{kind_of}
use Rattle.node_state.specs.working.Steps.{CanStep, given_by}
use Rattle.node_state.specs.StandsFor.{Keeps}
use Rattle.node_state.specs.Streams.{Joins, followed}
use Rattle.node_state.proofs.SliceLemmas.{BringsFew}
use Rattle.node_state.proofs.PaddedLemmas.{padded_more, copy_alike}
use Rattle.node_state.proofs.SquareLemmas.{same_place}

zip-append : {A B : Type 0} (xs ws : List A) (ys zs : List B) → length xs ≡ length ys → zip (xs ++ ws) (ys ++ zs) ≡ zip xs ys ++ zip ws zs
zip-append [] ws [] zs h = refl
zip-append [] ws (y ∷ ys) zs h = absurd (omega (arith, h))
zip-append (x ∷ xs) ws [] zs h = absurd (omega (arith, h))
zip-append (x ∷ xs) ws (y ∷ ys) zs h = ap (λ t. (x, y) ∷ t) (zip-append xs ws ys zs (omega (arith, h)))

-- whole frames, counted
frames_in : (row : List ℤ) (channels : ℕ) → length row % channels ≡ 0 → length row ≡ length row / channels * channels
frames_in row channels e = let sum = mod-add-div' (length row) channels in omega (arith, sum, e)

-- a list of channels of stereo
stereo : (c : ℕ) → c < 2 → All (λ n. n < 2) (c ∷ [])
stereo c h i d lt = grind (arith, common_steps, h, lt)

-- a delayed row and more
delayed_more : (zeros row more : List ℤ)
    → take (length (row ++ more)) (zeros ++ (row ++ more))
    ≡ take (length row) (zeros ++ row) ++ take (length more) (drop (length row) (zeros ++ row) ++ more)
delayed_more zeros row more =
    let within : length row ≤ length (zeros ++ row) = grind (arith, common_steps) in
    ap₂ take (length-append row more) (sym (append_assoc zeros row more))
    ∙ take-add (length row) (length more) ((zeros ++ row) ++ more)
    ∙ ap₂ (λ x y. x ++ y) (take-append-le (length row) (zeros ++ row) more within)
    (ap (take (length more)) (drop-append-le (length row) (zeros ++ row) more within))

-- a line as long as all that is received gives what a longer one gives: silence
as_long : (x : List ℤ) (frames prepared long channels : ℕ) → long ≡ min frames prepared → length x ≤ prepared * channels
    → take (length x) (silence (frames * channels) ++ x) ≡ take (length x) (silence (long * channels) ++ x)
as_long x frames prepared long channels is few = ⊎_elim
    (λ (less : frames < prepared). ap (λ n. take (length x) (silence (n * channels) ++ x)) (let e : frames ≡ long = omega (arith, is, less) in e))
    (λ (more : prepared ≤ frames). let e : long ≡ prepared = omega (arith, is, more) in
    let wide : prepared * channels ≤ frames * channels = mul-le-mul_right channels more in
    silent frames (omega (arith, few, wide)) ∙ sym (silent long (subst (λ n. length x ≤ n * channels) (sym e) few)))
    (cases_lt frames prepared)
  where
    silent : (n : ℕ) → length x ≤ n * channels → take (length x) (silence (n * channels) ++ x) ≡ silence (length x)
    silent n low = let all = length-replicate (n * channels) (pos 0) in
        take-append-le (length x) (silence (n * channels)) x (omega (arith, all, low)) ∙ take-replicate (length x) (n * channels) (pos 0) low

-- what a kind's function gains by one quantum
pub gained : (s : KindState) (channels prepared quantum : ℕ) (a b left right : List ℤ) (h : KindInputs) (output : ℕ) → output < 2
    → h.frames + quantum ≤ prepared → BringsFew s (quantum * channels) a
    → CanStep s quantum a b left right → Keeps s channels prepared h
    → kind_output (kind_of s) (followed quantum a b h) output ≡ kind_output (kind_of s) h output ++ given_by s quantum a b output
gained (Source s) channels prepared quantum a b left right h output two within few can kept =
    let c = s.channels in
    let w = h.wave in
    let n = h.frames * c in
    let m = quantum * c in
    let sum : (h.frames + quantum) * c ≡ n + m = omega arith in
    let fits : n + m ≤ prepared * c = let wide : (h.frames + quantum) * c ≤ prepared * c = mul-le-mul_right c within in
    omega (arith, wide, sum) in
    let place : s.given ≡ min n (length (take (prepared * c) w)) = kept.2 ∙ ap (λ t. min n (length t)) kept.1 in
    let copy : take m (drop s.given s.samples ++ silence m) ≡ take m (drop n w ++ silence m) =
    ap (λ t. take m (drop s.given t ++ silence m)) kept.1 ∙ copy_alike w n m (prepared * c) s.given (pos 0) fits place in
    ap (λ k. take ((h.frames + quantum) * k) (w ++ silence ((h.frames + quantum) * k))) (sym kept.0)
    ∙ ap (λ k. take k (w ++ silence k)) sum
    ∙ padded_more w n m n (n + m) m (pos 0) (omega arith) (omega arith) (omega arith)
    ∙ ap₂ (λ k t. take (h.frames * k) (w ++ silence (h.frames * k)) ++ t) kept.0 (sym copy)
gained (Square s) channels prepared quantum a b left right h output two within few can kept =
    let period = s.wave.period in
    let amp = s.wave.amp in
    let next : (i j : ℕ) → i < quantum → j < s.wave.channels
    → square_at period amp (h.frames + i) ≡ square_at period amp (s.phase + i) = λ i j lt in_frame.
    same_place period amp (h.frames + i) (s.phase + i) (sym (mod-add-mod h.frames period i) ∙ ap (λ k. (k + i) % period) (sym kept.1)) in
    ap (λ k. of_frames (h.frames + quantum) k (λ i j. square_at period amp i)) (sym kept.0)
    ∙ of_frames-add (λ i j. square_at period amp i) (λ i j. square_at period amp i)
    (λ i j. square_at period amp (s.phase + i)) h.frames quantum s.wave.channels (λ i j lt in_frame. refl) next
    ∙ ap (λ k. of_frames h.frames k (λ i j. square_at period amp i) ++ given_by (Square s) quantum a b output) kept.0
gained (Gain s) channels prepared quantum a b left right h output two within few can kept = map-append (scaled s.g) h.a a
gained (Mix2 s) channels prepared quantum a b left right h output two within few can kept =
    ap (map (λ p. mixed s.ga s.gb p.0 p.1)) (zip-append h.a a h.b b kept)
    ∙ map-append (λ p. mixed s.ga s.gb p.0 p.1) (zip h.a h.b) (zip a b)
gained (Delay s) channels prepared quantum a b left right h output two within few can kept =
    let long = length-append h.a a in
    let sum : (h.frames + quantum) * channels ≡ h.frames * channels + quantum * channels = omega arith in
    let wide : (h.frames + quantum) * channels ≤ prepared * channels = mul-le-mul_right channels within in
    let before : length h.a ≤ prepared * channels = omega (arith, sum, wide, kept.1) in
    let after : length (h.a ++ a) ≤ prepared * channels = omega (arith, long, sum, wide, few, kept.1) in
    ap (λ k. take (length (h.a ++ a)) (silence (s.frames * k) ++ (h.a ++ a))) (sym kept.0)
    ∙ as_long (h.a ++ a) s.frames prepared s.long channels kept.2 after
    ∙ delayed_more (silence (s.long * channels)) h.a a
    ∙ ap (λ r. r ++ take (length a) (drop (length h.a) (silence (s.long * channels) ++ h.a) ++ a))
    (sym (as_long h.a s.frames prepared s.long channels kept.2 before))
    ∙ ap₂ (λ k t. take (length h.a) (silence (s.frames * k) ++ h.a) ++ take (length a) (t ++ a)) kept.0 (sym kept.3)
gained (Map s) channels prepared quantum a b left right h output two within few can kept =
    picked_append s.channels s.list h.a a (length h.a / s.channels) (omega arith) (frames_in h.a s.channels kept) s.within
gained (Split s) channels prepared quantum a b left right h output two within few can kept =
    picked_append 2 (output ∷ []) h.a a (length h.a / 2) (omega arith) (frames_in h.a 2 kept) (stereo output two)
gained (Sink s) channels prepared quantum a b left right h output two within few can kept = refl
gained (Meter s) channels prepared quantum a b left right h output two within few can kept = refl

-- the last of it
pub last_gained : (n : ℕ) (before new whole : List ℤ) → (n ≡ 0) ⊎ (n ≡ length new) → whole ≡ before ++ new
    → take n new ≡ drop (length whole - n) whole
last_gained n before new whole (inl none) w =
    let end : length whole - n ≡ length whole = omega (arith, none) in
    ap (λ k. take k new) none ∙ sym (ap (λ k. drop k whole) end ∙ drop-length whole)
last_gained n before new whole (inr all) w =
    let long : length whole ≡ length before + length new = ap length w ∙ length-append before new in
    let end : length whole - n ≡ length before = omega (arith, long, all) in
    take_all n new (omega (arith, all)) ∙ sym (ap₂ drop end w ∙ drop-append_seam before new)

-- what is written joins what was given before
pub joined : (n : ℕ) (kind : Kind) (before after : KindInputs) (output : ℕ) (new : List ℤ) → (n ≡ 0) ⊎ (n ≡ length new)
    → kind_output kind after output ≡ kind_output kind before output ++ new
    → Joins kind before after output (take n new)
joined n kind before after output new (inl none) w = inl (ap (λ k. length (take k new)) none)
joined n kind before after output new (inr all) w =
    inr (w ∙ ap (λ t. kind_output kind before output ++ t) (sym (take_all n new (omega (arith, all)))))
