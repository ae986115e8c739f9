-- Event words: how an event is stored in one word of 64 bits, 0 where no event is stored yet, and
-- what is read back from one.
-- Source: this project's own numbers; no public standard has them.
use Rattle.std.specs.Prelude.{◌≡◌, ℕ, ◌+◌, ◌*◌, ◌/◌, ◌%◌, ◌^◌, ◌<◌, ◌≤◌, ◌==◌, if◌then◌else◌}
use Rattle.pw_lists.specs.Limits.{dummy_node}
use Rattle.pw_graph.specs.declared.event.Event.{Event}
use Rattle.pw_graph.specs.declared.event.Event.TheVariants.{Begin, Start, Finish, Tick, End}

-- the parts of an event: the number of its kind, its node or 0, its cycle
abbrev pub event_kind : Event → ℕ
event_kind (Begin cycle) = 0
event_kind (Start cycle node) = 1
event_kind (Finish cycle node) = 2
event_kind (Tick cycle late) = 3
event_kind (End cycle) = 4

abbrev pub event_node : Event → ℕ
event_node (Begin cycle) = 0
event_node (Start cycle node) = node
event_node (Finish cycle node) = node
event_node (Tick cycle late) = 0
event_node (End cycle) = 0

abbrev pub event_cycle : Event → ℕ
event_cycle (Begin cycle) = cycle
event_cycle (Start cycle node) = cycle
event_cycle (Finish cycle node) = cycle
event_cycle (Tick cycle late) = cycle
event_cycle (End cycle) = cycle

-- the late set of a Tick, which is stored in a word of its own
abbrev pub event_late : Event → ℕ
event_late (Begin cycle) = 0
event_late (Start cycle node) = 0
event_late (Finish cycle node) = 0
event_late (Tick cycle late) = late
event_late (End cycle) = 0

abbrev pub event_word_of : Event → ℕ
event_word_of event = event_kind event + 1 + 8 * event_node event + 512 * event_cycle event

abbrev pub IsEventWord : ℕ → Type 0
IsEventWord word = (event : Event) × (event_node event ≤ dummy_node)
    × (event_cycle event < 2 ^ 32)
    × (word ≡ event_word_of event)

-- the event of a word, with the late set where it is a Tick
abbrev pub event_in : ℕ → ℕ → Event
event_in word late =
    if word % 8 == 1 then Begin (word / 512)
    else if word % 8 == 2 then Start (word / 512) (word / 8 % 64)
    else if word % 8 == 3 then Finish (word / 512) (word / 8 % 64)
    else if word % 8 == 4 then Tick (word / 512) late
    else End (word / 512)
