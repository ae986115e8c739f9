use Rattle.std.proofs.Common.{◌≡◌, ℤ, ◌+◌, ◌*◌, ◌-◌, ◌/◌, ◌<◌, ◌≤◌, ◌∙◌, ◌++◌, length, map, take, drop, zip, w32}
use Rattle.std.proofs.Common.{to_z, of_z, arith, sym, ap, ap₂}
use Rattle.std.proofs.lemmas.Int.{ints}
use Rattle.std.proofs.lemmas.Slice.Zip.{length-zip}
use Rattle.pw_lists.specs.Samples.{mixed}
use Rattle.s16_mixer.proofs.LaneLemmas.{lane_read, lane_turn, rest_turn, zip_lane, zip_drop, lane_fits}
use Rattle.s16_mixer.proofs.gains.mix2.Goals as goal

pub mix2-requires-clause-length_a : goal.mix2-requires-clause-length_a
mix2-requires-clause-length_a c =
    let x = lane_read 128 c.args.a.now c.as_chunks.result.0.now c.loop-k.k c.as_slice-x.result.now c.as_chunks.ensures.front
    c.as_chunks.ensures.front_len c.loop-k-test.true c.as_slice-x.ensures in
    lane_fits c.args.a.now c.as_slice-x.result.now c.loop-k.to (c.loop-k.k * 128) ((c.loop-k.k + 1) * 128 - c.loop-k.k * 128) 128 x
    (omega (arith, c.loop-k-test.true, c.as_chunks.ensures.front_len)) (omega (arith, c.loop-k.auto.to, c.requires.length_a)) (omega arith)

pub mix2-requires-clause-length_b : goal.mix2-requires-clause-length_b
mix2-requires-clause-length_b c =
    let same : length c.args.b.now ≡ length c.args.a.now = omega (arith, c.requires.length_a, c.requires.length_b) in
    let here : c.loop-k.k < length c.as_chunks-2.result.0.now =
    omega (arith, same, c.loop-k-test.true, c.as_chunks.ensures.front_len, c.as_chunks-2.ensures.front_len) in
    let y = lane_read 128 c.args.b.now c.as_chunks-2.result.0.now c.loop-k.k c.as_slice-y.result.now c.as_chunks-2.ensures.front
    c.as_chunks-2.ensures.front_len here c.as_slice-y.ensures in
    lane_fits c.args.b.now c.as_slice-y.result.now c.loop-k.to (c.loop-k.k * 128) ((c.loop-k.k + 1) * 128 - c.loop-k.k * 128) 128 y
    (omega (arith, here, c.as_chunks-2.ensures.front_len)) (omega (arith, c.loop-k.auto.to, c.requires.length_b)) (omega arith)

pub loop-k-preserved : goal.loop-k-preserved
loop-k-preserved c =
    let f : ℤ × ℤ → ℤ = λ p. mixed (to_z w32 (of_z w32 c.args.ga)) (to_z w32 (of_z w32 c.args.gb)) p.0 p.1 in
    let k = c.loop-k.k in
    let n = k * 128 in
    let same : length c.args.b.now ≡ length c.args.a.now = omega (arith, c.requires.length_a, c.requires.length_b) in
    let pairs = length-zip c.args.a.now c.args.b.now in
    let below : n ≤ length (zip c.args.a.now c.args.b.now) =
    omega (arith, pairs, same, c.loop-k-test.true, c.as_chunks.ensures.front_len) in
    let x = lane_read 128 c.args.a.now c.as_chunks.result.0.now k c.as_slice-x.result.now c.as_chunks.ensures.front
    c.as_chunks.ensures.front_len c.loop-k-test.true c.as_slice-x.ensures in
    let y = lane_read 128 c.args.b.now c.as_chunks-2.result.0.now k c.as_slice-y.result.now c.as_chunks-2.ensures.front
    c.as_chunks-2.ensures.front_len
    (omega (arith, same, c.loop-k-test.true, c.as_chunks.ensures.front_len, c.as_chunks-2.ensures.front_len)) c.as_slice-y.ensures in
    let value = c.mix2.ensures ∙ ap (map f) (ap₂ zip x y ∙ zip_lane n 128 c.args.a.now c.args.b.now) in
    lane_turn f (zip c.args.a.now c.args.b.now) c.args.to.now c.loop-k.to c.mix2.new.to n ((k + 1) * 128 - n)
    ((k + 1) * 128) 128 c.loop-k.invariant value below (omega arith) (omega arith)

pub returns : goal.returns
returns c =
    let f : ℤ × ℤ → ℤ = λ p. mixed (to_z w32 (of_z w32 c.args.ga)) (to_z w32 (of_z w32 c.args.gb)) p.0 p.1 in
    let n = length c.as_chunks.result.0.now * 128 in
    let same : length c.args.b.now ≡ length c.args.a.now = omega (arith, c.requires.length_a, c.requires.length_b) in
    let pairs = length-zip c.args.a.now c.args.b.now in
    let below : n ≤ length (zip c.args.a.now c.args.b.now) = omega (arith, pairs, same, c.as_chunks.ensures.front_len) in
    let rest : c.as_chunks.result.1.now ≡ drop n c.args.a.now = c.as_chunks.ensures.back
    ∙ ap (λ k. drop (k * 128) c.args.a.now) (sym c.as_chunks.ensures.front_len) in
    let others : c.as_chunks-2.result.1.now ≡ drop n c.args.b.now = c.as_chunks-2.ensures.back
    ∙ ap (λ k. drop (k / 128 * 128) c.args.b.now) same ∙ ap (λ k. drop (k * 128) c.args.b.now) (sym c.as_chunks.ensures.front_len) in
    let last : c.loop-k.k * 128 ≡ n = omega (arith, c.loop-k.auto.k-end, c.loop-k-test.false) in
    let ea : to_z w32 (of_z w32 c.args.ga) ≡ c.args.ga = let fits = c.ranges.ga in omega (arith, ints) in
    let eb : to_z w32 (of_z w32 c.args.gb) ≡ c.args.gb = let fits = c.ranges.gb in omega (arith, ints) in
    let pair = zip c.args.a.now c.args.b.now in
    rest_turn f pair c.args.to.now c.loop-k.to c.mix2-2.new.to n (length c.loop-k.to - n)
    (c.loop-k.invariant ∙ ap (λ m. map f (take m pair) ++ drop m c.args.to.now) last)
    (c.mix2-2.ensures ∙ ap (map f) (ap₂ zip rest others ∙ zip_drop n c.args.a.now c.args.b.now))
    below (omega (arith, c.as_chunks.ensures.front_len, c.loop-k.auto.to, c.requires.length_a))
    ∙ ap₂ (λ x y. map (λ (p : ℤ × ℤ). mixed x y p.0 p.1) pair) ea eb
