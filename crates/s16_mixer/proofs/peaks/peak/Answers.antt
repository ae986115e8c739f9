use Rattle.std.proofs.Common.{◌≡◌, ℕ, ℤ, ◌+◌, ◌*◌, ◌/◌, ◌∙◌, max, fold, length, take, drop, map, zip, arith, sym, ap, ap₂}
use Rattle.std.proofs.Common.{take-add, take-append-drop, take_all}
use Rattle.std.specs.Prelude.{unsigned_abs}
use Rattle.pw_lists.specs.Samples.{peak_of}
use Rattle.s16_mixer.proofs.LaneLemmas.{lane_read, piece_length}
use Rattle.s16_mixer.proofs.PeakLemmas.{raised, peak_append}
use Rattle.s16_mixer.proofs.peaks.peak.Goals as goal

pub raise-requires-clause-lengths : goal.raise-requires-clause-lengths
raise-requires-clause-lengths c =
    let lane = lane_read 128 c.args.s.now c.as_chunks.result.0.now c.loop-k.k c.as_slice.result.now c.as_chunks.ensures.front
    c.as_chunks.ensures.front_len c.loop-k-test.true c.as_slice.ensures in
    let whole = piece_length c.args.s.now (c.loop-k.k * 128) 128 (omega (arith, c.as_chunks.ensures.front_len, c.loop-k-test.true)) in
    ap length c.as_mut_slice.ensures.value ∙ c.loop-k.invariant.0 ∙ sym whole ∙ ap length (sym lane)

pub loop-k-preserved : goal.loop-k-preserved
loop-k-preserved c =
    let k = c.loop-k.k in
    let s = c.args.s.now in
    let lane = lane_read 128 s c.as_chunks.result.0.now k c.as_slice.result.now c.as_chunks.ensures.front c.as_chunks.ensures.front_len
    c.loop-k-test.true c.as_slice.ensures in
    let whole = piece_length s (k * 128) 128 (omega (arith, c.as_chunks.ensures.front_len, c.loop-k-test.true)) in
    let same : length c.loop-k.tops ≡ length c.as_slice.result.now = c.loop-k.invariant.0 ∙ sym whole ∙ ap length (sym lane) in
    let next : k * 128 + 128 ≡ (k + 1) * 128 = omega arith in
    let value = ap (fold max 0) (c.raise.ensures.value
    ∙ ap (λ ts. map (λ (p : ℕ × ℤ). max p.0 (unsigned_abs p.1)) (zip ts c.as_slice.result.now)) c.as_mut_slice.ensures.value)
    ∙ raised c.loop-k.tops c.as_slice.result.now same ∙ ap₂ max c.loop-k.invariant.2 (ap peak_of lane)
    ∙ sym (peak_append (take (k * 128) s) (take 128 (drop (k * 128) s))) ∙ ap peak_of (sym (take-add (k * 128) 128 s))
    ∙ ap (λ n. peak_of (take n s)) next in
    (c.raise.auto.tops ∙ ap length c.as_mut_slice.ensures.value ∙ c.loop-k.invariant.0, c.raise.ensures.limit, value)

pub returns-clause-value : goal.returns-clause-value
returns-clause-value c =
    let s = c.args.s.now in
    let n = length s / 128 * 128 in
    let all : c.loop-j.j ≡ 128 = omega (arith, c.loop-j.auto.j-end, c.loop-j-test.false) in
    let lanes : c.loop-k.k * 128 ≡ n = omega (arith, c.loop-k.auto.k-end, c.loop-k-test.false, c.as_chunks.ensures.front_len) in
    let tops : take c.loop-j.j c.loop-k.tops ≡ c.loop-k.tops =
    take_all c.loop-j.j c.loop-k.tops (omega (arith, all, c.loop-k.invariant.0)) in
    c.loop-j.invariant.0 ∙ ap (max (peak_of (drop n s))) (ap (fold max 0) tops ∙ c.loop-k.invariant.2 ∙ ap (λ m. peak_of (take m s)) lanes)
    ∙ swapped (peak_of (drop n s)) (peak_of (take n s)) ∙ sym (peak_append (take n s) (drop n s)) ∙ ap peak_of (take-append-drop n s)
  where
    swapped : (a b : ℕ) → max a b ≡ max b a
    swapped a b = omega arith
