use denote.Param.Send.{IsSync, sendable}
use Rattle.std.proofs.Crossing.{crosses}
use Rattle.std.proofs.alloc.Global.TheSendSync as heap
use Rattle.atomic_table.proofs.shared.Shared.TheSendSync as words
use Rattle.atomic_table.proofs.send_lease.SendLease.TheSendSync as lease
use Rattle.soak_tests.specs.contracts.taken.Common as common_row
use Rattle.graph_run.proofs.SendLemmas.{loop_send, way_send, board_sync}
use Rattle.soak_tests.proofs.taken.start_one.Goals as goal

common_sync : IsSync common_row.the_row
common_sync = search (sendable, crosses, heap.the_send, heap.the_sync, words.the_send, words.the_sync, lease.the_send, lease.the_sync, board_sync) depth 30

pub spawn-requires-send-F : goal.spawn-requires-send-F
spawn-requires-send-F g c κs within = search (sendable, loop_send, way_send, common_sync) depth 30
