use Rattle.std.proofs.Common.{◌≡◌, ◌+◌, ◌*◌, ◌-◌, ◌∙◌, ◌++◌, length, map, take, drop, w32, to_z, of_z, arith, sym, ap}
use Rattle.std.proofs.lemmas.Int.{ints}
use Rattle.pw_lists.specs.Samples.{scaled}
use Rattle.s16_mixer.proofs.LaneLemmas.{lane_fits, lane_read, lane_turn, rest_turn}
use Rattle.s16_mixer.proofs.gains.gain.Goals as goal

pub gain-requires-clause-lengths : goal.gain-requires-clause-lengths
gain-requires-clause-lengths c =
    let lane = lane_read 128 c.args.s.now c.as_chunks.result.0.now c.loop-k.k c.as_slice.result.now c.as_chunks.ensures.front
    c.as_chunks.ensures.front_len c.loop-k-test.true c.as_slice.ensures in
    lane_fits c.args.s.now c.as_slice.result.now c.loop-k.to (c.loop-k.k * 128) ((c.loop-k.k + 1) * 128 - c.loop-k.k * 128) 128 lane
    (omega (arith, c.loop-k-test.true, c.as_chunks.ensures.front_len)) (omega (arith, c.loop-k.auto.to, c.requires.lengths)) (omega arith)

pub loop-k-preserved : goal.loop-k-preserved
loop-k-preserved c =
    let f = scaled (to_z w32 (of_z w32 c.args.g)) in
    let k = c.loop-k.k in
    let lane = lane_read 128 c.args.s.now c.as_chunks.result.0.now k c.as_slice.result.now c.as_chunks.ensures.front
    c.as_chunks.ensures.front_len c.loop-k-test.true c.as_slice.ensures in
    lane_turn f c.args.s.now c.args.to.now c.loop-k.to c.gain.new.to (k * 128) ((k + 1) * 128 - k * 128)
    ((k + 1) * 128) 128 c.loop-k.invariant (c.gain.ensures ∙ ap (map f) lane)
    (omega (arith, c.loop-k-test.true, c.as_chunks.ensures.front_len)) (omega arith) (omega arith)

pub returns : goal.returns
returns c =
    let f = scaled (to_z w32 (of_z w32 c.args.g)) in
    let n = length c.as_chunks.result.0.now * 128 in
    let rest : c.as_chunks.result.1.now ≡ drop n c.args.s.now = c.as_chunks.ensures.back
    ∙ ap (λ k. drop (k * 128) c.args.s.now) (sym c.as_chunks.ensures.front_len) in
    let last : c.loop-k.k * 128 ≡ n = omega (arith, c.loop-k.auto.k-end, c.loop-k-test.false) in
    let same : to_z w32 (of_z w32 c.args.g) ≡ c.args.g = let fits = c.ranges.g in omega (arith, ints) in
    rest_turn f c.args.s.now c.args.to.now c.loop-k.to c.gain-2.new.to n (length c.loop-k.to - n)
    (c.loop-k.invariant ∙ ap (λ m. map f (take m c.args.s.now) ++ drop m c.args.to.now) last) (c.gain-2.ensures ∙ ap (map f) rest)
    (omega (arith, c.as_chunks.ensures.front_len)) (omega (arith, c.as_chunks.ensures.front_len, c.loop-k.auto.to, c.requires.lengths))
    ∙ ap (λ z. map (scaled z) c.args.s.now) same
