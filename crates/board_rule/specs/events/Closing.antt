-- The end of a board: what its seat must have done, and the events that its words hold.
-- Source: this project's own.
use Rattle.std.specs.Prelude.{◌≡◌, ℕ, suc, ◌+◌, ◌-◌, ◌^◌, ◌<◌, ◌≤◌, true, List, [], length, All, slice_get, slice_index, Some}
use Rattle.pw_lists.specs.Limits.{dummy_node}
use Rattle.pw_graph.specs.declared.event.Event.{Event}
use Rattle.pw_graph.specs.declared.event.Event.TheVariants.{Tick}
use Rattle.pw_graph.specs.EventWords.{event_cycle, event_node, event_word_of}
use Rattle.board_rule.specs.declared.view.View.{View}
use Rattle.board_rule.specs.declared.closed.Closed.{Closed}
use Rattle.board_rule.specs.Layout.{BoardLayout, last}
use Rattle.board_rule.specs.activation.SeatNodes.{Owns}
use Rattle.board_rule.specs.View.{Samples, resting, no_trail}

-- the driver's seat, when it has ended all cycles
abbrev pub HasEndedAll : BoardLayout → View → Type 0
HasEndedAll p v = Owns true p v p.driver × (v.lead.cycle ≡ last p)

-- the driver's view when no more seats are split off, and the view that is kept of a board: it is
-- of no seat that steps, and knows only the samples
abbrev pub last_view : BoardLayout → View → View
last_view p v = record v { split = suc p.seats }

abbrev pub kept_view : BoardLayout → View → View
kept_view p v = record {
  number = suc p.seats;
  split = 0;
  lead = resting 0;
  nodes = [];
  writes = [];
  reads = [];
  words_read = [];
  blocks = [];
  reclaimed = [];
  owners = v.owners;
  trail = no_trail;
  expect = v.expect;
}

-- the samples that all seats of the board agreed on
abbrev pub expected : Closed → Samples
expected closed = closed.kept.me.0.expect

-- an event of a cycle not before `first`, whose numbers fit a word
abbrev pub IsInRange : ℕ → Event → Type 0
IsInRange first e = (first ≤ event_cycle e) × (event_cycle e < 2 ^ 32)
    × (event_node e ≤ dummy_node)

-- the late set of a Tick is in the word of its cycle, counted from `first`, after those before
-- `lates`
abbrev pub LateOf : ℕ → ℕ → Event → List ℕ → Type 0
LateOf first lates (Tick k set) words = (lates + (k - first) < length words)
    × (slice_index words (lates + (k - first)) ≡ set)
LateOf first lates _ words = Unit {0}

-- the words of a table hold the events: the ticket word, the word of each event from `events` on,
-- and the late set of each Tick from `lates` on
pub record AreRecorded (first lates events : ℕ) (history : List Event)
    (words : List ℕ) : Type 0 where
  pub count : slice_index words 0 ≡ length history
  pub room : events + length history ≤ length words
  pub some : 0 < length words
  pub each : (t : ℕ) (e : Event) → slice_get history t ≡ Some e
      → slice_index words (events + t) ≡ event_word_of e
  pub late : All (λ e. LateOf first lates e words) history
  pub ranges : All (IsInRange first) history
