use Rattle.std.proofs.Common.{◌≡◌, ◌≤◌, ◌+◌, length, map, take}
use Rattle.std.specs.Prelude.{All}
use Rattle.std.specs.List.{enumerate_from}
use Rattle.graph_run.specs.Boards.{driver_of, all_seats}
use Rattle.graph_run.specs.Seating.{epoch_board, holder_of}
use Rattle.graph_run.proofs.boards.boards_with_pools.Given as goal

abbrev pub invariant-loop-epoch : goal.invariant-loop-epoch
invariant-loop-epoch l = record {
  count : length l.boards ≡ l.epoch;
  shapes : map (λ b. b.board_shape) l.boards ≡ map (epoch_board (holder_of l.seating) l.seating.loops) (take l.epoch l.plan.epochs);
  drivers : l.drivers ≡ map (driver_of l.plan l.waves l.seating.loops) (enumerate_from 0 l.boards);
  seats : map (λ row. row.list) l.seats.items ≡ all_seats l.plan l.waves l.seating.loops l.boards;
  spare : All (λ row. l.count ≤ l.epoch + row.spare) l.seats.items;
}
