use Rattle.std.proofs.Common.{◌≡◌, ◌*◌, drop, ◌++◌, [], ◌∷◌, slice_index}
use Rattle.pw_lists.specs.Samples.{of_frames, sample_at}
use Rattle.s16_mixer.proofs.plain.channels.pick_pairs.Given as goal

abbrev pub invariant-loop-i : goal.invariant-loop-i
invariant-loop-i l = l.to ≡ of_frames l.i 2 (λ i j. sample_at l.channels l.s i (slice_index (l.first ∷ l.second ∷ []) j)) ++ drop
    (l.i * 2) l.fn.to
