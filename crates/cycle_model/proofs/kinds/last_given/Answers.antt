use Rattle.std.proofs.Common.{◌+◌, map, length, ap, ◌∙◌}
use Rattle.std.specs.List.{range_with_len}
use Rattle.cycle_model.specs.KindSamples.{kind_inputs_of, kind_sample}
use Rattle.cycle_model.proofs.KindLemmas.{wrote_last}
use Rattle.cycle_model.proofs.kinds.last_given.Goals as goal

pub returns : goal.returns
returns c =
    let h = kind_inputs_of c.args.wave.now c.args.channels c.args.received.now in
    let from = c.saturating_sub-from.result in
    wrote_last c.args.kind.now h c.args.output c.args.n c.in-Some.len from c.in_ok-row.row c.fill.new.to
    (c.in-Some.ensures c.args.wave.now) c.saturating_sub-from.ensures c.in_ok-row.ensures
    (c.fill.ensures ∙ ap (λ xs. map (λ r. kind_sample c.args.kind.now h c.args.output (from + r)) (range_with_len 0 (length xs)))
    c.as_mut_slice.ensures.value)
