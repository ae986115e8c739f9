-- A Range and a Step as rows.
use Rattle.std.proofs.Common.{◌≡◌, rules}
use Rattle.format_filter.specs.working.Making.{range_of, step_of}
use Rattle.format_filter.proofs.RowLemmas.{range_row, step_row}
use Rattle.format_filter.proofs.intersection.meet_step.Goals as goal

pub meet_rows-requires-clause-other : goal.meet_rows-requires-clause-other
meet_rows-requires-clause-other c =
    let v = c.in-Range in
    let is : c.range.result ≡ range_of v.wide v.pick v.min v.max = search rules in
    range_row c.args.b.now c.range.result v.wide v.pick v.min v.max v.is is c.requires.b

pub meet_rows-requires-in-Step-clause-other : goal.meet_rows-requires-in-Step-clause-other
meet_rows-requires-in-Step-clause-other c =
    let v = c.in-Step in
    let is : c.steps.result ≡ step_of v.wide v.pick v.min v.max v.step = search rules in
    step_row c.args.b.now c.steps.result v.wide v.pick v.min v.max v.step v.is is c.requires.b
