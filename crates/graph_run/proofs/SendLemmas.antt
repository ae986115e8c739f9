-- What a run's threads are given and give back may go from one thread to another.
use denote.Param.Send.{IsSend, IsSync, sendable}
use Rattle.std.proofs.Crossing.{crosses}
use Rattle.std.proofs.alloc.Global.TheSendSync as heap
use Rattle.atomic_table.proofs.shared.Seat.TheSendSync as token
use Rattle.atomic_table.proofs.shared.Shared.TheSendSync as words
use Rattle.atomic_table.proofs.send_lease.SendLease.TheSendSync as lease
use Rattle.circular_buffer.proofs.cells.Cells.TheSendSync as cells
use Rattle.circular_buffer.proofs.cells.Deed.TheSendSync as deed
use Rattle.board_rule.specs.contracts.loop_seat.LoopSeat as seat_row
use Rattle.board_rule.specs.contracts.board.Board as board_row
use Rattle.board_rule.specs.contracts.closed.Closed as closed_row
use Rattle.board_rule.specs.contracts.driver_seat.DriverSeat as driver_row
use Rattle.io_areas.specs.contracts.pool.Pool as pool_row
use Rattle.node_state.specs.contracts.node_state.NodeState as node_row
use Rattle.ready_queues.specs.contracts.end.End as end_row
use Rattle.ready_queues.specs.contracts.way.Way as way_row
use Rattle.data_loop.specs.contracts.own_pools.OwnPools as own_row
use Rattle.data_loop.specs.contracts.epoch_state.EpochState as epoch_state_row
use Rattle.data_loop.specs.contracts.loop_state.LoopState as loop_row
use Rattle.graph_run.specs.contracts.alone.AloneRun as alone_row
use Rattle.graph_run.specs.contracts.ended.EndedRun as ended_row
use Rattle.graph_run.specs.contracts.leading.Driving as driving_row
use Rattle.graph_run.specs.contracts.rooms.Rooms as rooms_row
use Rattle.graph_run.specs.contracts.shared.LoopWay as given_row
use Rattle.graph_run.specs.contracts.shared.Shared as shared_row

ruleset crossing = (sendable, crosses, heap.the_send, heap.the_sync, token.the_send, words.the_send, words.the_sync, lease.the_send, lease.the_sync)

pub seat_send : IsSend seat_row.the_row
seat_send = search crossing depth 30

pub pool_send : IsSend pool_row.the_row
pool_send = search (crossing, cells.the_send, deed.the_send) depth 30

pub node_send : IsSend node_row.the_row
node_send = search crossing depth 30

own_field : IsSend own_row.the_field.row
own_field = search (crossing, pool_send) depth 30 fits 50000

pub epoch_state_send : IsSend epoch_state_row.the_row
epoch_state_send = let a : IsSend own_row.the_field.row = own_field in search (crossing, seat_send, pool_send) depth 30 fits 50000

pub loop_send : IsSend loop_row.the_row
loop_send = search (crossing, epoch_state_send, node_send) depth 30

pub end_send : IsSend end_row.the_row
end_send = search crossing depth 30

pub way_send : IsSend way_row.the_row
way_send = search (crossing, end_send) depth 30

-- the same as fields of a struct
loop_field : IsSend loop_row.the_field.row
loop_field = search (crossing, epoch_state_send, node_send) depth 30 fits 50000

way_field : IsSend way_row.the_field.row
way_field = search (crossing, end_send) depth 30 fits 50000

pub given_send : IsSend given_row.the_row
given_send = let a : IsSend loop_row.the_field.row = loop_field in let b : IsSend way_row.the_field.row = way_field in
    search sendable depth 30 fits 50000

pub board_sync : IsSync board_row.the_row
board_sync = search crossing depth 30 fits 50000

pub shared_sync : IsSync shared_row.the_row
shared_sync = search (crossing, board_sync) depth 30 fits 50000

-- a run of one thread, before it and after it
driver_send : IsSend driver_row.the_row
driver_send = search crossing depth 30 fits 50000

board_send : IsSend board_row.the_row
board_send = search crossing depth 30 fits 50000

closed_send : IsSend closed_row.the_row
closed_send = search crossing depth 30 fits 50000

rooms_field : IsSend rooms_row.the_field.row
rooms_field = search (crossing, closed_send) depth 30 fits 50000

shared_field : IsSend shared_row.the_field.row
shared_field = search (crossing, board_send) depth 30 fits 50000

driving_field : IsSend driving_row.the_field.row
driving_field = let a : IsSend loop_row.the_field.row = loop_field in let b : IsSend way_row.the_field.row = way_field in
    search (crossing, driver_send) depth 30 fits 50000

pub alone_send : IsSend alone_row.the_row
alone_send = let a : IsSend shared_row.the_field.row = shared_field in let b : IsSend driving_row.the_field.row = driving_field in
    let c : IsSend rooms_row.the_field.row = rooms_field in search (crossing, loop_send) depth 30 fits 50000

pub alone_field : IsSend alone_row.the_field.row
alone_field = let a : IsSend shared_row.the_field.row = shared_field in let b : IsSend driving_row.the_field.row = driving_field in
    let c : IsSend rooms_row.the_field.row = rooms_field in search (crossing, loop_send) depth 30 fits 50000

pub ended_send : IsSend ended_row.the_row
ended_send = let c : IsSend rooms_row.the_field.row = rooms_field in
    search (crossing, loop_send, board_send, driver_send) depth 30 fits 50000
