-- When the boards of a run may be closed, and what is left of them.
-- Source: this project's own.
use Rattle.std.specs.Prelude.{◌≡◌, ℕ, List, map, sum_by}
use Rattle.std.specs.List.{flat_map}
use Rattle.pw_graph.specs.declared.event.Event.{Event}
use Rattle.pw_graph.specs.History.{IsLegalHistory}
use Rattle.pw_graph.specs.Layout.{event_count}
use Rattle.board_rule.specs.declared.board.Board.{Board}
use Rattle.board_rule.specs.declared.closed.Closed.{Closed}
use Rattle.board_rule.specs.Known.{Known}
use Rattle.board_rule.specs.events.Closing.{HasEndedAll}
use Rattle.board_rule.specs.OnBoard.{IsOn, layout}

-- the driver's seat of the board has ended all cycles of its epoch
abbrev pub HasEnded : Board → Known → Type 0
HasEnded board driver = IsOn board driver.table × HasEndedAll (layout board) driver.knows

-- the events of all boards in all their cycles, at most
abbrev pub events_on : List Board → ℕ
events_on boards = sum_by (λ b. event_count b.board_shape.shape) boards

-- closed boards are of the boards' shapes, in order
abbrev pub AreClosedOf : List Board → List Closed → Type 0
AreClosedOf boards closed = map (λ x. x.board_shape) closed ≡ map (λ b. b.board_shape) boards

-- the events of closed boards, one board after the other
abbrev pub events_in : List Closed → List Event
events_in closed = flat_map (λ x. x.events) closed

-- a history is legal for the epochs of the boards
abbrev pub IsLegalOn : List Board → List Event → Type 0
IsLegalOn boards history = IsLegalHistory (map (λ b. b.board_shape.shape) boards) history
