-- Where the events of a cycle are in a history. Source: PipeWire's documentation, "Graph
-- Scheduling".
use Rattle.std.specs.Prelude.{ℕ, ◌==◌, ◌&&◌, Bool, true, false, List}
use Rattle.std.specs.List.{position_or_len}
use Rattle.pw_graph.specs.declared.event.Event.{Event}
use Rattle.pw_graph.specs.declared.event.Event.TheVariants.{Start, Finish, Tick}

abbrev pub is_start : ℕ → ℕ → Event → Bool
is_start cycle node (Start c n) = (c == cycle) && (n == node)
is_start cycle node _ = false

abbrev pub is_finish : ℕ → ℕ → Event → Bool
is_finish cycle node (Finish c n) = (c == cycle) && (n == node)
is_finish cycle node _ = false

abbrev pub is_tick : Event → Bool
is_tick (Tick c late) = true
is_tick _ = false

-- where a node's Start, its Finish, and the Tick are; past the end, where they are not
abbrev pub start_place : List Event → ℕ → ℕ → ℕ
start_place events cycle node = position_or_len (is_start cycle node) events

abbrev pub finish_place : List Event → ℕ → ℕ → ℕ
finish_place events cycle node = position_or_len (is_finish cycle node) events

abbrev pub tick_place : List Event → ℕ
tick_place events = position_or_len is_tick events
