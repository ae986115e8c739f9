-- A stretch of frames with one gain is written after those before it.
use Rattle.std.proofs.Common.{◌≡◌, ◌+◌, ◌-◌, ◌*◌, ◌/◌, ◌≤◌, ◌∙◌, ◌++◌, length, take, drop, map, refl, ap, arith, ℤ, w32, to_z, of_z}
use Rattle.std.proofs.lemmas.Int.{ints}
use Rattle.pw_lists.specs.Samples.{scaled}
use Rattle.control_sequence.specs.Automation.{automated}
use Rattle.std.proofs.lemmas.Nat.{div-add-mod'}
use Rattle.control_sequence.proofs.AutomationLemmas.{gain_stays, still_behind, stretch_written, whole_samples, whole_stream}
use Rattle.control_sequence.proofs.applying.apply_from.Goals as goal

pub slice_bounds-gain-end : goal.slice_bounds-gain-end
slice_bounds-gain-end c =
    let s = c.args.s.now in
    let within : c.loop-done.done + c.stretch-n.result ≤ length s / c.args.channels =
    omega (arith, c.stretch-n.ensures.within, c.loop-done-test.true) in
    whole_samples (length s) c.args.channels (c.loop-done.done + c.stretch-n.result) c.requires.whole within

pub slice_bounds-gain-end-in-loop-done : goal.slice_bounds-gain-end-in-loop-done
slice_bounds-gain-end-in-loop-done c =
    let s = c.args.s.now in
    let within : c.loop-done.done + c.stretch-n.result ≤ length s / c.args.channels =
    omega (arith, c.stretch-n.ensures.within, c.loop-done-test.true) in
    let end = whole_samples (length s) c.args.channels (c.loop-done.done + c.stretch-n.result) c.requires.whole within in
    omega (arith, end, c.loop-done.auto.to, c.requires.lengths)

pub loop-done-preserved : goal.loop-done-preserved
loop-done-preserved c =
    let points = c.args.points.now in
    let done = c.loop-done.done in
    let n = c.stretch-n.result in
    let channels = c.args.channels in
    let frame = c.args.first + done in
    let g = c.reach-reached.result.gain in
    let next = c.reach-reached.result.next in
    let bound = c.reach-reached.ensures.behind.1 in
    let gain_is : to_z w32 (of_z w32 g) ≡ g = omega (arith, ints, bound.0, bound.1) in
    let within : done + n ≤ length c.args.s.now / channels = omega (arith, c.stretch-n.ensures.within, c.loop-done-test.true) in
    record {
      within = within;
      behind = still_behind points frame (c.args.first + (done + n)) next g (omega arith) c.reach-reached.ensures.behind;
      written = stretch_written points channels c.args.first done n g c.args.s.now c.args.to.now c.loop-done.to c.gain.new.to
          (done * channels) ((done + n) * channels - done * channels) ((done + n) * channels)
          c.requires.sound.1.0 refl refl
          (whole_samples (length c.args.s.now) channels (done + n) c.requires.whole within) refl
          c.loop-done.invariant.written
          (gain_stays points next frame n g c.requires.sound.0.1 c.reach-reached.ensures.behind c.stretch-n.ensures.before)
          (c.gain.ensures ∙ ap (λ (z : ℤ). map (scaled z) (take ((done + n) * channels - done * channels)
          (drop (done * channels) c.args.s.now))) gain_is);
    }

pub returns-clause-samples : goal.returns-clause-samples
returns-clause-samples c =
    let points = c.args.points.now in
    let channels = c.args.channels in
    let first = c.args.first in
    let s = c.args.s.now in
    let all : c.loop-done.done ≡ length s / channels = omega (arith, c.loop-done.invariant.within, c.loop-done-test.false) in
    let long : c.loop-done.done * channels ≡ length s =
    ap (λ n. n * channels) all ∙ omega (arith, div-add-mod' (length s) channels, c.requires.whole) in
    c.loop-done.invariant.written
    ∙ ap (λ n. automated points channels first (take n s) ++ drop n c.args.to.now) long
    ∙ whole_stream points channels first s c.args.to.now c.requires.lengths
