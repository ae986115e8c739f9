use Rattle.std.proofs.Common.{◌≡◌, ◌*◌, length, drop, ◌++◌, slice_index}
use Rattle.pw_lists.specs.Samples.{of_frames, sample_at}
use Rattle.s16_mixer.proofs.plain.channels.map_channels.Given as goal

abbrev pub invariant-loop-i : goal.invariant-loop-i
invariant-loop-i l = l.to ≡ of_frames l.i (length l.list) (λ i j. sample_at l.channels l.s i (slice_index l.list j)) ++ drop
    (l.i * length l.list) l.fn.to
