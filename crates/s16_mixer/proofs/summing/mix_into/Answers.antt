use Rattle.std.proofs.Common.{◌≡◌, ℤ, ◌+ℤ◌, ◌+◌, ◌*◌, ◌-◌, ◌≤◌, ◌∙◌, ◌++◌, List, length, map, take, drop, zip, All}
use Rattle.std.proofs.Common.{arith, subst, sym, ap, ap₂, take-append-drop}
use Rattle.std.proofs.lemmas.List.{take_rest}
use Rattle.std.proofs.lemmas.List.Elements.{All-append, All-take, All-drop}
use Rattle.std.proofs.lemmas.Slice.Zip.{length-zip}
use Rattle.pw_lists.specs.Samples.{summed}
use Rattle.s16_mixer.specs.Ranges.{HasRoom, IsWithin}
use Rattle.s16_mixer.proofs.WithinLemmas.{within_more, lane_joined}
use Rattle.s16_mixer.proofs.LaneLemmas.{lane_fits, lane_read, lane_turn, rest_turn, zip_lane, zip_drop, lane_untouched}
use Rattle.s16_mixer.proofs.summing.mix_into.Goals as goal

pub mix_into-requires-clause-lengths : goal.mix_into-requires-clause-lengths
mix_into-requires-clause-lengths c =
    let lane = lane_read 128 c.args.s.now c.as_chunks.result.0.now c.loop-k.k c.as_slice.result.now c.as_chunks.ensures.front
    c.as_chunks.ensures.front_len c.loop-k-test.true c.as_slice.ensures in
    sym (lane_fits c.args.s.now c.as_slice.result.now c.loop-k.sum (c.loop-k.k * 128) ((c.loop-k.k + 1) * 128 - c.loop-k.k * 128) 128 lane
    (omega (arith, c.loop-k-test.true, c.as_chunks.ensures.front_len)) (omega (arith, c.loop-k.auto.sum, c.requires.lengths)) (omega arith))

pub mix_into-requires-clause-room : goal.mix_into-requires-clause-room
mix_into-requires-clause-room c =
    let n = c.loop-k.k * 128 in
    let pairs = length-zip c.args.sum.now c.args.s.now in
    let same = lane_untouched (λ (p : ℤ × ℤ). p.0 +ℤ p.1) (zip c.args.sum.now c.args.s.now) c.args.sum.now c.loop-k.sum n
    ((c.loop-k.k + 1) * 128 - n) c.loop-k.invariant.sum
    (omega (arith, pairs, c.loop-k-test.true, c.as_chunks.ensures.front_len, c.requires.lengths)) in
    subst (λ (xs : List ℤ). All HasRoom xs) (sym same)
    (All-take HasRoom ((c.loop-k.k + 1) * 128 - n) (drop n c.args.sum.now) (All-drop HasRoom n c.args.sum.now c.requires.room))

pub loop-k-preserved : goal.loop-k-preserved
loop-k-preserved c =
    let add : ℤ × ℤ → ℤ = λ p. p.0 +ℤ p.1 in
    let k = c.loop-k.k in
    let n = k * 128 in
    let pairs = length-zip c.args.sum.now c.args.s.now in
    let below : n ≤ length (zip c.args.sum.now c.args.s.now) =
    omega (arith, pairs, c.loop-k-test.true, c.as_chunks.ensures.front_len, c.requires.lengths) in
    let w : (k + 1) * 128 - k * 128 ≡ 128 = omega arith in
    let lane = lane_read 128 c.args.s.now c.as_chunks.result.0.now k c.as_slice.result.now c.as_chunks.ensures.front
    c.as_chunks.ensures.front_len c.loop-k-test.true c.as_slice.ensures in
    let front = ap (λ m. take m (drop n c.loop-k.sum)) w
    ∙ lane_untouched add (zip c.args.sum.now c.args.s.now) c.args.sum.now c.loop-k.sum n 128 c.loop-k.invariant.sum below in
    let value = c.mix_into.ensures.sum ∙ ap₂ summed front lane ∙ ap (map add) (zip_lane n 128 c.args.sum.now c.args.s.now) in
    record {
      sum = lane_turn add (zip c.args.sum.now c.args.s.now) c.args.sum.now c.loop-k.sum c.mix_into.new.sum n ((k + 1) * 128 - n)
          ((k + 1) * 128) 128 c.loop-k.invariant.sum value below w (omega arith);
      short = subst (All (IsWithin 1)) (lane_joined c.args.s.now n 128 ((k + 1) * 128) (omega arith))
          (All-append (IsWithin 1) (take n c.args.s.now) (take 128 (drop n c.args.s.now)) c.loop-k.invariant.short
          (subst (All (IsWithin 1)) lane c.mix_into.ensures.short));
    }

pub mix_into-requires-2-clause-room : goal.mix_into-requires-2-clause-room
mix_into-requires-2-clause-room c =
    let n = length c.as_chunks.result.0.now * 128 in
    let last : c.loop-k.k * 128 ≡ n = omega (arith, c.loop-k.auto.k-end, c.loop-k-test.false) in
    let pair = zip c.args.sum.now c.args.s.now in
    let pairs = length-zip c.args.sum.now c.args.s.now in
    let below : n ≤ length pair = omega (arith, pairs, c.as_chunks.ensures.front_len, c.requires.lengths) in
    let add : ℤ × ℤ → ℤ = λ p. p.0 +ℤ p.1 in
    let same = lane_untouched add pair c.args.sum.now c.loop-k.sum n (length c.loop-k.sum - n)
    (c.loop-k.invariant.sum ∙ ap (λ m. map add (take m pair) ++ drop m c.args.sum.now) last) below in
    subst (λ (xs : List ℤ). All HasRoom xs) (sym same)
    (All-take HasRoom (length c.loop-k.sum - n) (drop n c.args.sum.now) (All-drop HasRoom n c.args.sum.now c.requires.room))

pub returns-clause-sum : goal.returns-clause-sum
returns-clause-sum c =
    let add : ℤ × ℤ → ℤ = λ p. p.0 +ℤ p.1 in
    let n = length c.as_chunks.result.0.now * 128 in
    let pair = zip c.args.sum.now c.args.s.now in
    let pairs = length-zip c.args.sum.now c.args.s.now in
    let below : n ≤ length pair = omega (arith, pairs, c.as_chunks.ensures.front_len, c.requires.lengths) in
    let last : c.loop-k.k * 128 ≡ n = omega (arith, c.loop-k.auto.k-end, c.loop-k-test.false) in
    let done = c.loop-k.invariant.sum ∙ ap (λ m. map add (take m pair) ++ drop m c.args.sum.now) last in
    let w = length c.loop-k.sum - n in
    let rest : c.as_chunks.result.1.now ≡ drop n c.args.s.now = c.as_chunks.ensures.back
    ∙ ap (λ k. drop (k * 128) c.args.s.now) (sym c.as_chunks.ensures.front_len) in
    let whole : take w (drop n c.args.sum.now) ≡ drop n c.args.sum.now = ap (λ k. take (k - n) (drop n c.args.sum.now)) c.loop-k.auto.sum
    ∙ take_rest c.args.sum.now n in
    let front = lane_untouched add pair c.args.sum.now c.loop-k.sum n w done below ∙ whole in
    let value = c.mix_into-2.ensures.sum ∙ ap₂ summed front rest ∙ ap (map add) (zip_drop n c.args.sum.now c.args.s.now) in
    rest_turn add pair c.args.sum.now c.loop-k.sum c.mix_into-2.new.sum n w done value below
    (omega (arith, c.as_chunks.ensures.front_len, c.loop-k.auto.sum, c.requires.lengths))

pub returns-clause-within : goal.returns-clause-within
returns-clause-within c m old =
    let n = length c.as_chunks.result.0.now * 128 in
    let last : c.loop-k.k * 128 ≡ n = omega (arith, c.loop-k.auto.k-end, c.loop-k-test.false) in
    let rest : c.as_chunks.result.1.now ≡ drop n c.args.s.now = c.as_chunks.ensures.back
    ∙ ap (λ k. drop (k * 128) c.args.s.now) (sym c.as_chunks.ensures.front_len) in
    let front : All (IsWithin 1) (take n c.args.s.now) = subst (λ k. All (IsWithin 1) (take k c.args.s.now)) last c.loop-k.invariant.short in
    let all : All (IsWithin 1) c.args.s.now = subst (All (IsWithin 1)) (take-append-drop n c.args.s.now)
    (All-append (IsWithin 1) (take n c.args.s.now) (drop n c.args.s.now) front (subst (All (IsWithin 1)) rest c.mix_into-2.ensures.short)) in
    subst (All (IsWithin (m + 1))) (sym (returns-clause-sum c)) (within_more m c.args.sum.now c.args.s.now old all)
