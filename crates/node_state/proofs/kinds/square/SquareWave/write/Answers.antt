use Rattle.std.proofs.Common.{◌≡◌, ◌∙◌, ◌≤◌, ◌+◌, ◌-◌, ◌*◌, ◌%◌, length, take, drop, replicate, refl, rules, SFits, w16, to_z}
use Rattle.std.proofs.Common.{of_z, sym, ap, ap₂, arith, mul-le-mul_right}
use Rattle.std.proofs.lemmas.Grind.{common_steps}
use Rattle.std.proofs.lemmas.Int.{to_z-of_z}
use Rattle.node_state.proofs.SquareLemmas.{place_after, run_row}
use Rattle.node_state.proofs.kinds.square.SquareWave.write.Goals as goal

pub loop-done-preserved : goal.loop-done-preserved
loop-done-preserved c =
    let period = c.args.self.now.period in
    let channels = c.args.self.now.channels in
    let done = c.loop-done.done in
    let run = c.min-run.result in
    let end = c.run_at-sample.result.1 in
    let s = c.args.phase + done in
    let place : c.loop-done.place ≡ s % period = c.loop-done.invariant.place c.loop-done-test.true in
    let wide = (done + run) * channels - done * channels in
    let fits : (done + run) * channels ≤ c.args.frames * channels = mul-le-mul_right channels (omega arith) in
    let long : length (take wide (drop (done * channels) c.loop-done.to)) ≡ wide =
    grind (arith, common_steps, fits, c.loop-done.auto.to, c.requires.lengths) in
    let fit : SFits w16 c.run_at-sample.result.0 = search rules in
    let value : to_z w16 (of_z w16 c.run_at-sample.result.0) ≡ c.run_at-sample.result.0 = to_z-of_z w16 c.run_at-sample.result.0 fit in
    let filled : c.fill.new.self ≡ replicate wide c.run_at-sample.result.0 = c.fill.ensures.after (λ y e. e) ∙ ap₂ replicate long value in
    record {
      inside = omega arith;
      place = λ more.
          let whole : run ≡ end - c.loop-done.place = omega arith in
          let moved : c.args.phase + (done + run) ≡ s + (end - c.loop-done.place) = omega (arith, whole) in
          c.wrapped-place.ensures ∙ sym (ap (λ n. n % period) moved ∙ place_after s end period c.loop-done.place place (omega arith));
      row = run_row period c.args.self.now.amp c.run_at-sample.result.0 c.args.to.now c.loop-done.to c.fill.new.self c.args.phase done
          c.loop-done.place end run channels
          (done * channels) ((done + run) * channels) wide place
          (omega arith) c.run_at-sample.ensures.value c.loop-done.invariant.row refl refl refl filled;
    }
