-- A Range and a Step as rows.
use Rattle.std.proofs.Common.{◌≡◌, rules}
use Rattle.format_filter.specs.working.Making.{step_of}
use Rattle.format_filter.proofs.RowLemmas.{step_row}
use Rattle.format_filter.proofs.intersection.meet_range.Goals as goal

pub meet_rows-requires-clause-other : goal.meet_rows-requires-clause-other
meet_rows-requires-clause-other c =
    let v = c.in-Step in
    let is : c.steps.result ≡ step_of v.wide v.pick v.min v.max v.step = search rules in
    step_row c.args.b.now c.steps.result v.wide v.pick v.min v.max v.step v.is is c.requires.b
