-- What a worker is given may go from one thread to another, and all threads may share what a run has.
use denote.Param.Send.{IsSend, IsSync, sendable}
use Rattle.std.proofs.Crossing.{crosses}
use Rattle.std.proofs.alloc.Global.TheSendSync as heap
use Rattle.atomic_table.proofs.shared.Seat.TheSendSync as token
use Rattle.atomic_table.proofs.shared.Shared.TheSendSync as words
use Rattle.atomic_table.proofs.send_lease.SendLease.TheSendSync as lease
use Rattle.graph_run.proofs.SendLemmas.{loop_send, end_send, board_sync}
use Rattle.graph_run.specs.contracts.seating.Seating as seating_row
use Rattle.ready_queues.specs.contracts.way.Way as way_row
use Rattle.ready_queues.specs.contracts.ways.Ways as ways_row
use Rattle.steal_shelf.specs.contracts.shelf.Shelf as shelf_row
use Rattle.steal_shelf.specs.contracts.shelf.ShelfSeat as shelf_seat_row
use Rattle.steal_shelf.specs.contracts.token.Token as token_row
use Rattle.steal_loops.specs.contracts.counts.HintCounts as hints_row
use Rattle.steal_loops.specs.contracts.shared.Shared as shared_row
use Rattle.steal_loops.specs.contracts.signs.Signs as signs_row
use Rattle.steal_loops.specs.contracts.claimant.Claimant as claimant_row

ruleset crossing = (sendable, crosses, heap.the_send, heap.the_sync, token.the_send, words.the_send, words.the_sync, lease.the_send, lease.the_sync)

token_send : IsSend token_row.the_row
token_send = search (crossing, loop_send) depth 30 fits 50000

seat_field : IsSend shelf_seat_row.the_field.row
seat_field = search (crossing, token_send) depth 30 fits 50000

way_field : IsSend way_row.the_field.row
way_field = search (crossing, end_send) depth 30 fits 50000

hints_field : IsSend hints_row.the_field.row
hints_field = search crossing depth 30 fits 50000

pub claimant_send : IsSend claimant_row.the_row
claimant_send = let a : IsSend shelf_seat_row.the_field.row = seat_field in let b : IsSend way_row.the_field.row = way_field in
    let c : IsSend hints_row.the_field.row = hints_field in search crossing depth 30 fits 50000

shelf_field : IsSync shelf_row.the_field.row
shelf_field = search (crossing, loop_send) depth 30 fits 50000

signs_field : IsSync signs_row.the_field.row
signs_field = search crossing depth 30 fits 50000

ways_field : IsSync ways_row.the_field.row
ways_field = search crossing depth 30 fits 50000

seating_field : IsSync seating_row.the_field.row
seating_field = search crossing depth 30 fits 50000

pub shared_sync : IsSync shared_row.the_row
shared_sync = let a : IsSync shelf_row.the_field.row = shelf_field in let b : IsSync signs_row.the_field.row = signs_field in
    let c : IsSync ways_row.the_field.row = ways_field in let d : IsSync seating_row.the_field.row = seating_field in
    search (crossing, board_sync) depth 30 fits 50000
