use Rattle.std.proofs.Common.{◌≡◌, ◌+◌, ◌≤◌, List, take, get_or}
use Rattle.pw_graph.specs.declared.event.Event.{Event}
use Rattle.board_rule.specs.events.Closing.{AreRecorded}
use Rattle.board_rule.proofs.closing.history.Given as goal

abbrev pub invariant-loop-t : goal.invariant-loop-t
invariant-loop-t l = ((all : List Event) → AreRecorded l.first l.lates l.events all l.words.words.items → l.room.list ≡ take l.t all)
    × (get_or l.words.words.items 0 0 ≤ l.room.spare + l.t)
