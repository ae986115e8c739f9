-- Square waves: runs of equal samples, and frames from a place in the period on.
use Rattle.std.proofs.Common.{◌≡◌, ℕ, zero, suc, ◌+◌, ◌-◌, ◌*◌, ◌%◌, ◌<◌, ◌≤◌, ◌∙◌, List, ◌∷◌, ◌++◌, length}
use Rattle.std.proofs.Common.{drop, map, replicate, ℤ, neg_ℤ, refl, sym, ap, ap₂, arith, nat_lt, if◌then◌else◌}
use Rattle.std.specs.List.{range_with_len}
use Rattle.std.proofs.Math.Nat.{mod-add-mod}
use Rattle.std.proofs.lemmas.List.FromFn.{length-map-range_with_len}
use borrow.Rule.Slice.PartMut.{put_mid}
use Rattle.pw_lists.specs.Samples.{of_frames}
use Rattle.pw_graph.specs.KindFunction.{square_at}
use Rattle.s16_mixer.proofs.FrameLemmas.{of_frames-add}
use Rattle.s16_mixer.proofs.LaneLemmas.{piece_written}

-- frames a whole number of periods apart are alike
pub same_place : (period : ℕ) (amp : ℤ) (i j : ℕ) → i % period ≡ j % period → square_at period amp i ≡ square_at period amp j
same_place period amp i j e = ap (λ n. if nat_lt (2 * n) period then amp else neg_ℤ amp) e

-- the place at the end of a run
pub place_after : (s end period place : ℕ) → place ≡ s % period → place ≤ end → (s + (end - place)) % period ≡ end % period
place_after s end period place e h =
    let whole : s % period + (end - place) ≡ end = omega (arith, e, h) in
    sym (mod-add-mod s period (end - place)) ∙ ap (λ n. n % period) whole

-- a row of one value
one_value : (v : ℤ) (n a : ℕ) → map (λ (k : ℕ). v) (range_with_len a n) ≡ replicate n v
one_value v zero a = refl
one_value v (suc n) a = ap (λ t. v ∷ t) (one_value v n (a + 1))

-- one run more
pub run_written : (f : ℕ → ℕ → ℤ) (v : ℤ) (ys to new : List ℤ) (done run channels w : ℕ) → ((i j : ℕ) → i < run → f (done + i) j ≡ v)
    → to ≡ of_frames done channels f ++ drop (done * channels) ys → new ≡ replicate w v → w ≡ run * channels
    → put_mid (done * channels) w to new ≡ of_frames (done + run) channels f ++ drop ((done + run) * channels) ys
run_written f v ys to new done run channels w same t e h =
    let long : length (of_frames done channels f) ≡ done * channels = length-map-range_with_len _ 0 (done * channels) in
    let end : done * channels + w ≡ (done + run) * channels = omega (arith, h) in
    let flat : of_frames run channels (λ i j. v) ≡ new = one_value v (run * channels) 0 ∙ ap (λ n. replicate n v) (sym h) ∙ sym e in
    ap (λ r. put_mid (done * channels) w r new) t
    ∙ piece_written (of_frames done channels f) ys new (done * channels) w long
    ∙ ap₂ (λ r n. r ++ drop n ys) (ap (λ r. of_frames done channels f ++ r) (sym flat)
    ∙ sym (of_frames-add f f (λ i j. v) done run channels (λ i j lt in_frame. refl) (λ i j lt in_frame. same i j lt))) end

-- the samples of a run from a place in the period on
pub run_row : (period : ℕ) (amp v : ℤ) (ys to new : List ℤ) (phase done place end run channels n m w : ℕ) → place ≡ (phase + done) % period
    → run ≤ end - place
    → ((i : ℕ) → place ≤ i → i < end → square_at period amp i ≡ v)
    → to ≡ of_frames done channels (λ i j. square_at period amp (phase + i)) ++ drop n ys → n ≡ done * channels
    → m ≡ (done + run) * channels → w ≡ m - n → new ≡ replicate w v
    → put_mid n w to new ≡ of_frames (done + run) channels (λ i j. square_at period amp (phase + i)) ++ drop m ys
run_row period amp v ys to new phase done place end run channels n m w p r value t a b e f =
    let shape = λ (i j : ℕ). square_at period amp (phase + i) in
    let row : to ≡ of_frames done channels shape ++ drop (done * channels) ys = t
    ∙ ap (λ k. of_frames done channels shape ++ drop k ys) a in
    let wide : w ≡ run * channels = omega (arith, a, b, e) in
    let at : (i j : ℕ) → i < run → shape (done + i) j ≡ v = λ i j lt.
    let moved : phase + (done + i) ≡ phase + done + i = omega arith in
    let same : (phase + (done + i)) % period ≡ (place + i) % period =
    ap (λ k. k % period) moved ∙ sym (mod-add-mod (phase + done) period i) ∙ ap (λ k. (k + i) % period) (sym p) in
    same_place period amp (phase + (done + i)) (place + i) same ∙ value (place + i) (omega arith) (omega (arith, lt, r)) in
    ap (λ k. put_mid k w to new) a ∙ run_written shape v ys to new done run channels w at row f wide
    ∙ ap (λ k. of_frames (done + run) channels shape ++ drop k ys) (sym b)
