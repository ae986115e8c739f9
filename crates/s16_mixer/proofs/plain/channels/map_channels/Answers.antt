use Rattle.std.proofs.Common.{◌∙◌, refl, slice_index}
use Rattle.pw_lists.specs.Samples.{sample_at}
use Rattle.s16_mixer.proofs.FrameLemmas.{frame_over}
use Rattle.s16_mixer.proofs.plain.channels.map_channels.Goals as goal

pub loop-i-preserved : goal.loop-i-preserved
loop-i-preserved c =
    c.pick_frame.ensures
    ∙ frame_over (λ i j. sample_at c.args.channels c.args.s.now i (slice_index c.args.list.now j))
    (λ k. sample_at c.args.channels c.args.s.now c.loop-i.i k)
    c.args.list.now c.loop-i.i c.args.to.now c.loop-i.to (λ k lt. refl) c.loop-i.invariant
