-- The row that begins later comes first.
use Rattle.format_filter.proofs.InBothLemmas.{turned}
use Rattle.format_filter.proofs.progression.common_numbers.Goals as goal

pub returns-then-a-b : goal.returns-then-a-b
returns-then-a-b c = turned c.args.a c.args.b c.common_after.result c.common_after.ensures

pub returns-else-a-b : goal.returns-else-a-b
returns-else-a-b c = c.common_after-else-a-b.ensures

pub common_after-requires-clause-late : goal.common_after-requires-clause-late
common_after-requires-clause-late c = c.requires.b

pub common_after-requires-clause-early : goal.common_after-requires-clause-early
common_after-requires-clause-early c = c.requires.a

pub common_after-requires-else-a-b-clause-late : goal.common_after-requires-else-a-b-clause-late
common_after-requires-else-a-b-clause-late c = c.requires.a

pub common_after-requires-else-a-b-clause-early : goal.common_after-requires-else-a-b-clause-early
common_after-requires-else-a-b-clause-early c = c.requires.b
