-- The order of the events of a closed board: that of their tickets.
-- Source: this project's own; near to the order of a profiler's records.
use Rattle.std.specs.Prelude.{◌≡◌, ℕ, List, Option, Some, length, slice_get, slice_index}
use mathlib.Core.Option.{some}
use lib.ListN.{get_elem?}
use Rattle.atomic_table.specs.Table.{State}
use Rattle.pw_graph.specs.declared.event.Event.{Event}
use Rattle.pw_graph.specs.EventWords.{event_word_of}
use Rattle.pw_graph.specs.Layout.{ticket_place, event_place}
use Rattle.board_rule.specs.declared.view.View.{View}
use Rattle.board_rule.specs.Layout.{BoardLayout}
use Rattle.board_rule.specs.BoardRule.{Holds}
use Rattle.board_rule.specs.events.Closing.{last_view}

-- THE ORDER OF TICKETS: in a last state of the board, which its rule allows and in which its
-- driver's seat has the last of the view v, `count` tickets are drawn, one an event, and in the
-- word of each ticket is `each` event of that index
pub record AreInTicketOrder (p : BoardLayout) (v : View) (events : List Event) : Type 0 where
  pub state : State (Option ℕ) View
  pub allowed : Holds p state
  pub seat : (i : ℕ) × (get_elem? state.views i ≡ some (last_view p v))
  pub count : slice_index state.words ticket_place ≡ length events
  pub each : (t : ℕ) (e : Event) → slice_get events t ≡ Some e
      → slice_index state.words (event_place p.shape t) ≡ event_word_of e
