-- What the driver's thread does with its way to the queues: after a turn of a loop it sends what
-- the turn woke, and at the end of a round it may rest.
-- Source: PipeWire's documentation, "Graph Scheduling" and "Data loops"; that what is woken goes
-- through queues is this project's own.
use Rattle.std.specs.Prelude.{◌≡◌, ℕ, Bool, true, false}
use Rattle.board_rule.specs.declared.view.View.{View}
use Rattle.board_rule.specs.events.Bits.{woke_of}
use Rattle.board_rule.specs.Layout.{BoardLayout}
use Rattle.ready_queues.specs.declared.way.Way.{Way}
use Rattle.ready_queues.specs.declared.ways.Ways.{Ways}
use Rattle.ready_queues.specs.Forwarding.{HasForwarded}
use Rattle.data_loop.specs.declared.did.Did.TheVariants.{Ran, Idle}
use Rattle.data_loop.specs.declared.loop_state.LoopState.{LoopState}
use Rattle.data_loop.specs.LoopsOnBoards.{HasTurnedOnce}
use Rattle.data_loop.specs.LoopTries.{HasWoken}
-- a rest: once, and nothing else was done with the way
pub use Rattle.ready_queues.specs.Receiving.{HasRested}

-- SENT: each node of the set was sent to its loop, whose thread was unparked; some may have found
-- their queue full
abbrev pub HasSent : Ways → ℕ → Way → Way → Type 0
HasSent ways woke a b = (full : ℕ) × HasForwarded ways.owner ways.loops woke full a b

-- BEGUN, or not: what the beginning of a cycle woke was sent, where the seat has the view w after
-- it; where no cycle was begun, the way is as it was
abbrev pub SendsBegun : Bool → Ways → View → Way → Way → Type 0
SendsBegun true ways w a b = HasSent ways (woke_of w.trail.told) a b
SendsBegun false ways w a b = b ≡ a

-- a turn of a loop in which none of its nodes was awake
abbrev pub HasTurnedIdle : BoardLayout → LoopState → LoopState → Type 0
HasTurnedIdle p s t = HasTurnedOnce p s Idle t

-- ONE TURN of a loop, from s to t, and what became of the way, from a to b: a node ran, and what it
-- woke was sent; or none did, and the way is as it was
abbrev pub HasTakenTurn : Bool → BoardLayout → Ways → LoopState → Way → LoopState → Way
    → Type 0
HasTakenTurn true p ways s a t b = (node : ℕ) × HasTurnedOnce p s (Ran node) t
    × HasWoken (Ran node) t × HasSent ways t.woke a b
HasTakenTurn false p ways s a t b = HasTurnedOnce p s Idle t × HasWoken Idle t × (b ≡ a)
