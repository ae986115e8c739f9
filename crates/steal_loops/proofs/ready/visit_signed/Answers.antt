use Rattle.std.proofs.Common.{arith}
use Rattle.steal_loops.proofs.ready.visit_signed.Goals as goal

pub visit-found-requires-clause-cell : goal.visit-found-requires-clause-cell
visit-found-requires-clause-cell g c = let n = c.requires.cells.count in let m = c.loops.ensures in let low = c.if-cell-loops.false in omega (arith, n, m, low)
