use Rattle.std.proofs.Common.{◌≡◌, ◌≤◌, [], map}
use Rattle.std.specs.Prelude.{All}
use Rattle.std.specs.List.{range_with_len}
use Rattle.graph_run.proofs.boards.seat_rows.Given as goal

abbrev pub invariant-loop : goal.invariant-loop
invariant-loop l = record {
  lists : map (λ row. row.list) l.rows ≡ map (λ _. []) (range_with_len 0 l.counter);
  spare : All (λ row. l.count ≤ row.spare) l.rows;
}
