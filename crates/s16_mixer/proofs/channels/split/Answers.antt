use Rattle.std.proofs.Common.{◌≡◌, ℕ, ◌+◌, ◌*◌, ◌-◌, ◌<◌, ◌≤◌, ◌∙◌, ◌++◌, length, take, drop, [], ◌∷◌, All, arith}
use Rattle.std.proofs.Common.{sym, ap, ap₂}
use Rattle.pw_lists.specs.Samples.{picked}
use Rattle.std.proofs.lemmas.Grind.{common_steps}
use Rattle.s16_mixer.proofs.LaneLemmas.{lane_read, piece_length}
use Rattle.s16_mixer.proofs.FrameLemmas.{frames_turn, frames_rest}
use Rattle.s16_mixer.proofs.channels.split.Goals as goal

-- a channel of stereo frames
within : (c : ℕ) → c < 2 → All (λ n. n < 2) (c ∷ [])
within c h i d lt = grind (arith, common_steps, h, lt)

pub split-requires-clause-length_left : goal.split-requires-clause-length_left
split-requires-clause-length_left c =
    let k = c.loop-k.k in
    let lane = lane_read 128 c.args.s.now c.as_chunks.result.0.now k c.as_slice.result.now c.as_chunks.ensures.front
    c.as_chunks.ensures.front_len c.loop-k-test.true c.as_slice.ensures in
    let whole : k * 128 + 128 ≤ length c.args.s.now = omega (arith, c.as_chunks.ensures.front_len, c.loop-k-test.true) in
    let half : k * 64 + 64 ≤ length c.loop-k.left = omega (arith, whole, c.loop-k.auto.left, c.requires.length_left) in
    let w : (k + 1) * 64 - k * 64 ≡ 64 = omega arith in
    ap length lane ∙ piece_length c.args.s.now (k * 128) 128 whole ∙ ap (λ n. 2 * n) (sym (piece_length c.loop-k.left (k * 64) 64 half))
    ∙ ap (λ n. 2 * length (take n (drop (k * 64) c.loop-k.left))) (sym w)

pub split-requires-clause-length_right : goal.split-requires-clause-length_right
split-requires-clause-length_right c =
    let k = c.loop-k.k in
    let lane = lane_read 128 c.args.s.now c.as_chunks.result.0.now k c.as_slice.result.now c.as_chunks.ensures.front
    c.as_chunks.ensures.front_len c.loop-k-test.true c.as_slice.ensures in
    let whole : k * 128 + 128 ≤ length c.args.s.now = omega (arith, c.as_chunks.ensures.front_len, c.loop-k-test.true) in
    let half : k * 64 + 64 ≤ length c.loop-k.right = omega (arith, whole, c.loop-k.auto.right, c.requires.length_right) in
    let w : (k + 1) * 64 - k * 64 ≡ 64 = omega arith in
    ap length lane ∙ piece_length c.args.s.now (k * 128) 128 whole ∙ ap (λ n. 2 * n) (sym (piece_length c.loop-k.right (k * 64) 64 half))
    ∙ ap (λ n. 2 * length (take n (drop (k * 64) c.loop-k.right))) (sym w)

pub loop-k-preserved : goal.loop-k-preserved
loop-k-preserved c =
    let k = c.loop-k.k in
    let s = c.args.s.now in
    let lane = lane_read 128 s c.as_chunks.result.0.now k c.as_slice.result.now c.as_chunks.ensures.front c.as_chunks.ensures.front_len
    c.loop-k-test.true c.as_slice.ensures in
    let inside : k * 128 ≤ length s = omega (arith, c.as_chunks.ensures.front_len, c.loop-k-test.true) in
    let w : (k + 1) * 64 - k * 64 ≡ 64 = omega arith in
    let samples : k * 128 + 128 ≡ (k + 1) * 128 = omega arith in
    let frames : k * 64 + 64 ≡ (k + 1) * 64 = omega arith in
    let left = frames_turn 2 (0 ∷ []) s c.args.left.now c.loop-k.left c.split.new.left (k * 128) (k * 64) (k * 64)
    ((k + 1) * 64 - k * 64) 128 64 (omega arith) (within 0 (omega arith)) (omega arith) inside (omega arith)
    c.loop-k.invariant.0 (c.split.ensures.left ∙ ap (picked 2 (0 ∷ [])) lane) w in
    let right = frames_turn 2 (1 ∷ []) s c.args.right.now c.loop-k.right c.split.new.right (k * 128) (k * 64) (k * 64)
    ((k + 1) * 64 - k * 64) 128 64 (omega arith) (within 1 (omega arith)) (omega arith) inside (omega arith)
    c.loop-k.invariant.1 (c.split.ensures.right ∙ ap (picked 2 (1 ∷ [])) lane) w in (
      left ∙ ap₂ (λ n m. picked 2 (0 ∷ []) (take n s) ++ drop m c.args.left.now) samples frames,
      right ∙ ap₂ (λ n m. picked 2 (1 ∷ []) (take n s) ++ drop m c.args.right.now) samples frames,
    )

pub returns-clause-left : goal.returns-clause-left
returns-clause-left c =
    let lanes = length c.as_chunks.result.0.now in
    let s = c.args.s.now in
    let rest : c.as_chunks.result.1.now ≡ drop (lanes * 128) s = c.as_chunks.ensures.back
    ∙ ap (λ k. drop (k * 128) s) (sym c.as_chunks.ensures.front_len) in
    let last : c.loop-k.k ≡ lanes = omega (arith, c.loop-k.auto.k-end, c.loop-k-test.false) in
    let done = c.loop-k.invariant.0 ∙ ap (λ k. picked 2 (0 ∷ []) (take (k * 128) s) ++ drop (k * 64) c.args.left.now) last in
    let value = c.split-2.ensures.left ∙ ap (picked 2 (0 ∷ [])) rest in
    frames_rest 2 (0 ∷ []) s c.args.left.now c.loop-k.left c.split-2.new.left (lanes * 128) (lanes * 64) (lanes * 64)
    (length c.loop-k.left - lanes * 64) (omega arith) (within 0 (omega arith))
    (omega arith) (omega (arith, c.as_chunks.ensures.front_len)) (omega arith) done value
    (omega (arith, c.as_chunks.ensures.front_len, c.loop-k.auto.left, c.requires.length_left)) c.loop-k.auto.left

pub returns-clause-right : goal.returns-clause-right
returns-clause-right c =
    let lanes = length c.as_chunks.result.0.now in
    let s = c.args.s.now in
    let rest : c.as_chunks.result.1.now ≡ drop (lanes * 128) s = c.as_chunks.ensures.back
    ∙ ap (λ k. drop (k * 128) s) (sym c.as_chunks.ensures.front_len) in
    let last : c.loop-k.k ≡ lanes = omega (arith, c.loop-k.auto.k-end, c.loop-k-test.false) in
    let done = c.loop-k.invariant.1 ∙ ap (λ k. picked 2 (1 ∷ []) (take (k * 128) s) ++ drop (k * 64) c.args.right.now) last in
    let value = c.split-2.ensures.right ∙ ap (picked 2 (1 ∷ [])) rest in
    frames_rest 2 (1 ∷ []) s c.args.right.now c.loop-k.right c.split-2.new.right (lanes * 128) (lanes * 64) (lanes * 64)
    (length c.loop-k.right - lanes * 64) (omega arith) (within 1 (omega arith))
    (omega arith) (omega (arith, c.as_chunks.ensures.front_len)) (omega arith) done value
    (omega (arith, c.as_chunks.ensures.front_len, c.loop-k.auto.right, c.requires.length_right)) c.loop-k.auto.right
