-- What a loop's thread does with its way: it passes on what a turn or a try woke, and rests only
-- where no node was awake.
-- Source: PipeWire's documentation, "Graph Scheduling" and "Data loops"; that what is woken goes
-- through queues is this project's own.
use Rattle.std.specs.Prelude.{◌≡◌, ◌≢◌, ◌⊎◌, ℕ, Bool, true, false, []}
use Rattle.board_rule.specs.Layout.{BoardLayout}
use Rattle.ready_queues.specs.declared.way.Way.{Way}
use Rattle.ready_queues.specs.declared.ways.Ways.{Ways}
use Rattle.ready_queues.specs.Forwarding.{HasForwarded}
use Rattle.data_loop.specs.declared.did.Did.{Did}
use Rattle.data_loop.specs.declared.did.Did.TheVariants.{Ran, Idle}
use Rattle.data_loop.specs.declared.loop_state.LoopState.{LoopState}
use Rattle.data_loop.specs.LoopsOnBoards.{HasTurnedOnce}
use Rattle.data_loop.specs.LoopTries.{HasWoken}
use Rattle.data_loop.specs.LoopWay.{RestsAtMost}

-- each node of the set was sent to its loop, and came back where it was not pushed; the loop's
-- thread was unparked, unless it is the way's own, and the driver's as `HasForwarded` has it
abbrev pub Forwards : Ways → ℕ → Way → Way → Type 0
Forwards ways woke a b = (full : ℕ) × HasForwarded ways.owner ways.loops woke full a b

-- PASSED ON: where a node ran, what it woke is forwarded; where no node did, the way is as before
abbrev pub PassesOn : Ways → Did → LoopState → Way → Way → Type 0
PassesOn ways (Ran node) t a b = Forwards ways t.woke a b
PassesOn ways Idle t a b = b ≡ a

-- ONE TURN in which a node ran, from s to t, and what became of the way, from a to b
abbrev pub HasRunOne : BoardLayout → Ways → LoopState → Way → LoopState → Way → Type 0
HasRunOne p ways s a t b = (node : ℕ) × HasTurnedOnce p s (Ran node) t × HasWoken (Ran node) t
    × Forwards ways t.woke a b

-- in which no node was awake, and some that have cycles left were too early; the thread may have
-- rested after it
abbrev pub HasRunNone : BoardLayout → LoopState → Way → LoopState → Way → Type 0
HasRunNone p s a t b = HasTurnedOnce p s Idle t × (t.found.items ≢ []) × RestsAtMost a b

-- ONE TURN, whose answer is whether it found no follower with cycles left: then none was tried too
-- early, and there was no rest
abbrev pub HasTriedAll : Bool → BoardLayout → Ways → LoopState → Way → LoopState → Way
    → Type 0
HasTriedAll true p ways s a t b = HasTurnedOnce p s Idle t × (t.found.items ≡ []) × (b ≡ a)
HasTriedAll false p ways s a t b = HasRunOne p ways s a t b ⊎ HasRunNone p s a t b
