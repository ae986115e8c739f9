use Rattle.std.proofs.Common.{◌≡◌, ◌+◌, ◌*◌, ◌-◌, ◌∙◌, ◌++◌, length, map, take, drop, arith, sym, ap}
use Rattle.pw_lists.specs.Samples.{clamped}
use Rattle.s16_mixer.proofs.LaneLemmas.{lane_fits, lane_read, lane_turn, rest_turn}
use Rattle.s16_mixer.proofs.clamp.clamp_out.Goals as goal

pub clamp_out-requires : goal.clamp_out-requires
clamp_out-requires c =
    let lane = lane_read 128 c.args.sum.now c.as_chunks.result.0.now c.loop-k.k c.as_slice.result.now c.as_chunks.ensures.front
    c.as_chunks.ensures.front_len c.loop-k-test.true c.as_slice.ensures in
    lane_fits c.args.sum.now c.as_slice.result.now c.loop-k.to (c.loop-k.k * 128) ((c.loop-k.k + 1) * 128 - c.loop-k.k * 128) 128 lane
    (omega (arith, c.loop-k-test.true, c.as_chunks.ensures.front_len)) (omega (arith, c.loop-k.auto.to, c.requires)) (omega arith)

pub loop-k-preserved : goal.loop-k-preserved
loop-k-preserved c =
    let k = c.loop-k.k in
    let lane = lane_read 128 c.args.sum.now c.as_chunks.result.0.now k c.as_slice.result.now c.as_chunks.ensures.front
    c.as_chunks.ensures.front_len c.loop-k-test.true c.as_slice.ensures in
    lane_turn clamped c.args.sum.now c.args.to.now c.loop-k.to c.clamp_out.new.to (k * 128) ((k + 1) * 128 - k * 128)
    ((k + 1) * 128) 128 c.loop-k.invariant (c.clamp_out.ensures ∙ ap (map clamped) lane)
    (omega (arith, c.loop-k-test.true, c.as_chunks.ensures.front_len)) (omega arith) (omega arith)

pub returns : goal.returns
returns c =
    let n = length c.as_chunks.result.0.now * 128 in
    let rest : c.as_chunks.result.1.now ≡ drop n c.args.sum.now = c.as_chunks.ensures.back
    ∙ ap (λ k. drop (k * 128) c.args.sum.now) (sym c.as_chunks.ensures.front_len) in
    let last : c.loop-k.k * 128 ≡ n = omega (arith, c.loop-k.auto.k-end, c.loop-k-test.false) in
    rest_turn clamped c.args.sum.now c.args.to.now c.loop-k.to c.clamp_out-2.new.to n (length c.loop-k.to - n)
    (c.loop-k.invariant ∙ ap (λ m. map clamped (take m c.args.sum.now) ++ drop m c.args.to.now) last)
    (c.clamp_out-2.ensures ∙ ap (map clamped) rest)
    (omega (arith, c.as_chunks.ensures.front_len)) (omega (arith, c.as_chunks.ensures.front_len, c.loop-k.auto.to, c.requires))
