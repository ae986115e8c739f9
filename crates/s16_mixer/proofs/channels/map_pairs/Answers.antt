use Rattle.std.proofs.Common.{◌≡◌, ℕ, ◌+◌, ◌*◌, ◌-◌, ◌/◌, ◌%◌, ◌≤◌, ◌∙◌, ◌++◌, length, take, drop, arith, sym, ap}
use Rattle.std.proofs.Common.{ap₂}
use Rattle.pw_lists.specs.Samples.{picked}
use Rattle.s16_mixer.proofs.LaneLemmas.{lane_read, piece_length}
use Rattle.s16_mixer.proofs.FrameLemmas.{frames_turn, frames_rest}
use Rattle.s16_mixer.proofs.channels.map_pairs.Goals as goal

pub map_channels-requires-clause-whole : goal.map_channels-requires-clause-whole
map_channels-requires-clause-whole c =
    let lane = lane_read 128 c.args.s.now c.as_chunks.result.0.now c.loop-k.k c.as_slice.result.now c.as_chunks.ensures.front
    c.as_chunks.ensures.front_len c.loop-k-test.true c.as_slice.ensures in
    let whole = piece_length c.args.s.now (c.loop-k.k * 128) 128 (omega (arith, c.as_chunks.ensures.front_len, c.loop-k-test.true)) in
    ap (λ n. n % 2) (ap length lane ∙ whole)

pub map_channels-requires-clause-lengths : goal.map_channels-requires-clause-lengths
map_channels-requires-clause-lengths c =
    let n = c.loop-k.k * 128 in
    let lane = lane_read 128 c.args.s.now c.as_chunks.result.0.now c.loop-k.k c.as_slice.result.now c.as_chunks.ensures.front
    c.as_chunks.ensures.front_len c.loop-k-test.true c.as_slice.ensures in
    let room : n + 128 ≤ length c.args.s.now = omega (arith, c.as_chunks.ensures.front_len, c.loop-k-test.true) in
    let w : (c.loop-k.k + 1) * 128 - n ≡ 128 = omega arith in
    let left = ap (λ j. length (take j (drop n c.loop-k.to))) w
    ∙ piece_length c.loop-k.to n 128 (omega (arith, room, c.loop-k.auto.to, c.requires.lengths)) in
    left ∙ sym (ap₂ (λ x y. x / 2 * y) (ap length lane ∙ piece_length c.args.s.now n 128 room) c.requires.two)

pub loop-k-preserved : goal.loop-k-preserved
loop-k-preserved c =
    let k = c.loop-k.k in
    let s = c.args.s.now in
    let list = c.args.list.now in
    let two = c.requires.two in
    let lane = lane_read 128 s c.as_chunks.result.0.now k c.as_slice.result.now c.as_chunks.ensures.front c.as_chunks.ensures.front_len
    c.loop-k-test.true c.as_slice.ensures in
    let inside : k * 128 ≤ length s = omega (arith, c.as_chunks.ensures.front_len, c.loop-k-test.true) in
    let next : k * 128 + 128 ≡ (k + 1) * 128 = omega arith in
    let place : k * 128 ≡ k * 64 * length list = sym (ap (λ j. k * 64 * j) two ∙ twice k) in
    frames_turn 2 list s c.args.to.now c.loop-k.to c.map_channels.new.to (k * 128) (k * 128) (k * 64) ((k + 1) * 128 - k * 128) 128 128
    (omega arith) c.requires.within (omega arith) inside place
    c.loop-k.invariant (c.map_channels.ensures ∙ ap (picked 2 list) lane) (omega arith)
    ∙ ap (λ n. picked 2 list (take n s) ++ drop n c.args.to.now) next
  where
    twice : (k : ℕ) → k * 64 * 2 ≡ k * 128
    twice k = omega arith

pub returns : goal.returns
returns c =
    let lanes = length c.as_chunks.result.0.now in
    let s = c.args.s.now in
    let list = c.args.list.now in
    let rest : c.as_chunks.result.1.now ≡ drop (lanes * 128) s = c.as_chunks.ensures.back
    ∙ ap (λ k. drop (k * 128) s) (sym c.as_chunks.ensures.front_len) in
    let last : c.loop-k.k ≡ lanes = omega (arith, c.loop-k.auto.k-end, c.loop-k-test.false) in
    let done = c.loop-k.invariant ∙ ap (λ k. picked 2 list (take (k * 128) s) ++ drop (k * 128) c.args.to.now) last in
    let place : lanes * 128 ≡ lanes * 64 * length list = sym (ap (λ j. lanes * 64 * j) c.requires.two ∙ twice lanes) in
    frames_rest 2 list s c.args.to.now c.loop-k.to c.map_channels-2.new.to (lanes * 128) (lanes * 128) (lanes * 64)
    (length c.loop-k.to - lanes * 128) (omega arith) c.requires.within
    (omega arith) (omega (arith, c.as_chunks.ensures.front_len)) place done (c.map_channels-2.ensures ∙ ap (picked 2 list) rest)
    (omega (arith, c.as_chunks.ensures.front_len, c.loop-k.auto.to, c.requires.lengths)) c.loop-k.auto.to
  where
    twice : (k : ℕ) → k * 64 * 2 ≡ k * 128
    twice k = omega arith
