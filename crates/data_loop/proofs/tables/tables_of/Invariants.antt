use Rattle.std.proofs.Common.{◌≡◌, length}
use Rattle.data_loop.specs.Tables.{AreTables}
use Rattle.data_loop.proofs.tables.tables_of.Given as goal

abbrev pub invariant-loop-n : goal.invariant-loop-n
invariant-loop-n l = record {
  count : length l.tables ≡ l.n;
  tables : AreTables l.tables;
}
