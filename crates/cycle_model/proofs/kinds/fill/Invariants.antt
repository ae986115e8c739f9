use Rattle.std.proofs.Common.{◌≡◌, ℕ, ◌+◌, ◌<◌, get_or, pos}
use Rattle.cycle_model.specs.KindSamples.{kind_inputs_of, kind_sample}
use Rattle.cycle_model.proofs.kinds.fill.Given as goal

abbrev pub invariant-loop-r : goal.invariant-loop-r
invariant-loop-r l = (k : ℕ) → k < l.r → get_or l.to k (pos 0)
    ≡ kind_sample l.kind (kind_inputs_of l.wave l.channels l.received) l.output (l.from + k)
