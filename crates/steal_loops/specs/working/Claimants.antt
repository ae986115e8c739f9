-- What a thread takes cells with.
-- Source: this project's own.
use Rattle.std.specs.Prelude.{◌≡◌, ℕ, ◌<◌, Bool, true, length, slice_index_or}
use Rattle.ready_queues.specs.declared.way.Way.{Way}
use Rattle.ready_queues.specs.declared.ways.Ways.{Ways}
use Rattle.ready_queues.specs.AnsweredWith.{IsWayOf}
use Rattle.ready_queues.specs.Starting.{IsIdle}
use Rattle.steal_shelf.specs.declared.shelf.Shelf.{Shelf}
use Rattle.steal_shelf.specs.declared.shelf.ShelfSeat.{ShelfSeat}
use Rattle.steal_shelf.specs.Seats.{cells_of, IsSeatOf, IsNewSeat, LacksCell}
use Rattle.steal_loops.specs.declared.scan.Scan.{Scan}
use Rattle.steal_loops.specs.declared.shared.Shared.{Shared}
use Rattle.steal_loops.specs.declared.claimant.Claimant.{Claimant}
use Rattle.steal_loops.specs.working.Cells.{HasFinished}

-- a seat of the shelf as it was made
abbrev pub IsUnusedSeat : Shelf → ShelfSeat → Type 0
IsUnusedSeat shelf seat = IsSeatOf shelf seat × IsNewSeat shelf seat

-- a seat of the shelf, which has no cell, a way to the queues, and a flag for each cell, which the
-- seat left at its end where the flag is up
pub record IsClaimant (shared : Shared) (t : Claimant) : Type 0 where
  pub seat : IsSeatOf shared.shelf t.seat
  pub rests : (i : ℕ) → i < length (cells_of shared.shelf) → LacksCell t.seat i
  pub answered : IsWayOf shared.ways t.way
  pub flags : length t.ended.items ≡ length (cells_of shared.shelf)
  pub ended : (i : ℕ) (d : Bool) → i < length (cells_of shared.shelf)
      → slice_index_or t.ended.items i d ≡ true → HasFinished shared t.seat i

-- THE WAY of a worker before the run, which was not started
abbrev pub IsWorkersWay : Ways → Way → Type 0
IsWorkersWay ways way = IsWayOf ways way × (way.number < ways.loops) × IsIdle way

-- A WORKER, and the driver's thread
abbrev pub IsWorker : Shared → Claimant → Type 0
IsWorker shared t = IsClaimant shared t × (t.way.number < shared.ways.loops)

-- a worker before the run: its way was not started
abbrev pub IsNewWorker : Shared → Claimant → Type 0
IsNewWorker shared t = IsWorker shared t × IsIdle t.way

abbrev pub IsDriverClaimant : Shared → Claimant → Type 0
IsDriverClaimant shared t = IsClaimant shared t × (t.way.number ≡ shared.ways.loops)

abbrev pub IsScan : Shared → Scan → Type 0
IsScan shared p = IsDriverClaimant shared p.claimant
