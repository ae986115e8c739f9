use Rattle.std.proofs.Common.{◌≡◌, ◌+◌, length, pos, arith}
use Rattle.std.proofs.lemmas.List.FromFn.{fill_by_all}
use Rattle.cycle_model.specs.KindSamples.{kind_inputs_of, kind_sample}
use Rattle.cycle_model.proofs.kinds.fill.Goals as goal

pub returns : goal.returns
returns c =
    let long : length c.loop-r.to ≡ length c.args.to.now = omega arith in
    fill_by_all (λ r. kind_sample c.args.kind.now (kind_inputs_of c.args.wave.now c.args.channels c.args.received.now) c.args.output
    (c.args.from + r)) c.loop-r.to (length c.args.to.now) (pos 0) long
    (λ k h. c.loop-r.invariant k (omega arith))
