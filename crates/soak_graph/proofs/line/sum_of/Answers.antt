-- One sample more is in 16 bits, so the sum of so few samples is in 64.
use Rattle.std.proofs.Common.{◌≡◌, ◌∙◌, ◌+ℤ◌, ◌≤ℤ◌, neg_ℤ, pos, get_or, rules, sym, ap, arith, to_z, of_z, w16, w64, FitsSigned}
use Rattle.std.proofs.lemmas.Int.{ints}
use Rattle.soak_graph.proofs.SoakLineLemmas.{sum_more}
use Rattle.soak_graph.proofs.line.sum_of.Goals as goal

pub loop-sample-preserved : goal.loop-sample-preserved
loop-sample-preserved c =
    let i = c.loop-sample.sample-index in
    let inv = c.loop-sample.invariant in
    let at = c.loop-sample-test.true in
    let few = c.requires in
    let s = get_or c.args.samples.now i (pos 0) in
    let fits : FitsSigned w16 s = search rules in
    let here : c.from-sum.result ≡ s = c.from-sum.ensures ∙ (omega (arith, ints)) in
    let low : neg_ℤ (pos 32768) ≤ℤ s = omega (arith, ints, fits) in
    let high : s ≤ℤ pos 32767 = omega (arith, ints, fits) in
    let old = to_z w64 c.loop-sample.sum-bits in
    let more = sum_more c.args.samples.now i (pos 0) at in
    let plain : to_z w64 (of_z w64 (old +ℤ to_z w64 (of_z w64 c.from-sum.result))) ≡ old +ℤ s = omega (arith, ints) in
    record {
      sum = plain ∙ ap (λ n. n +ℤ s) inv.sum ∙ sym more;
      low = omega (arith, ints, plain, low, inv.low);
      high = omega (arith, ints, plain, high, inv.high);
    }
