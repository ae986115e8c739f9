use Rattle.std.proofs.Common.{arith}
use Rattle.board_rule.specs.declared.rows.PoolRow.{PoolRow}
use Rattle.board_rule.proofs.rows.row_at.Goals as goal

pub returns-clause-small : goal.returns-clause-small
returns-clause-small c = let none : PoolRow = record { filler = 0; node = 0; blocks = 0; words = 0; readers = 0; first = 0; base = 0 } in
    let is = c.requires.rows.each c.args.pool none c.requires.inside in let w = is.words in
    let s = c.requires.small c.args.pool c.requires.inside in omega arith
