use Rattle.std.proofs.Common.{◌≡◌, ◌<◌, ℕ, length, Some}
use Rattle.std.specs.Prelude.{slice_get}
use Rattle.board_rule.specs.Layout.{layout_of}
use Rattle.board_rule.specs.Known.{Known}
use Rattle.board_rule.specs.View.{driver_view, loop_view}
use Rattle.board_rule.specs.working.Shares.{HasShares}
use Rattle.board_rule.proofs.driver_seat.DriverSeat.split_all.Given as goal

abbrev pub invariant-loop-k : goal.invariant-loop-k
invariant-loop-k g l = (l.self ≡ (let x : Known =
    record { table = l.board.table.shared.table_id; knows = driver_view (layout_of l.board.board_shape) g.E.Expect.expect l.k } in x))
    × (length l.loops ≡ l.k) × HasShares (layout_of l.board.board_shape) l.k (layout_of l.board.board_shape).seats l.shares
    × ((i : ℕ) → i < l.k → slice_get l.loops i ≡ Some record
    { table = l.board.table.shared.table_id; knows = loop_view (layout_of l.board.board_shape) g.E.Expect.expect i })
