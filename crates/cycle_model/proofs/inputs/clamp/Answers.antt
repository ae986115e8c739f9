use Rattle.std.proofs.Common.{◌≡◌, ◌∙◌, length, get_or, pos, sym, arith}
use Rattle.std.proofs.lemmas.List.FromFn.{fill_by_all}
use Rattle.pw_lists.specs.Samples.{clamped}
use Rattle.cycle_model.proofs.KindLemmas.{each_row}
use Rattle.cycle_model.proofs.inputs.clamp.Goals as goal

pub returns : goal.returns
returns c =
    let long : length c.loop-i.to ≡ length c.args.sums.now = omega arith in
    fill_by_all (λ k. clamped (get_or c.args.sums.now k (pos 0))) c.loop-i.to (length c.args.sums.now) (pos 0) long
    (λ k h. c.loop-i.invariant k (omega arith))
    ∙ sym (each_row clamped c.args.sums.now)
