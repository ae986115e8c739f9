-- How many cycles always fit below the limit of events, in words. Source: the limit is this
-- project's own; a cycle has its Begin, its End and at most one Tick, and of each active node a
-- Start and a Finish.
use Rattle.std.specs.Prelude.{ℕ, ◌+◌, ◌*◌, ◌/◌, ◌&&◌, not, Bool, true, false, List, [], ◌++◌, filter, length, codes, decimal, bytes_eq, Option, Some, None, if◌then◌else◌}
use Rattle.pw_lists.specs.Limits.{events_limit}
use Rattle.pw_lists.specs.declared.limit.Which.{Which}
use Rattle.pw_lists.specs.declared.limit.Which.TheVariants as W
use Rattle.fault_messages.specs.Makers.{is_maker}
use Rattle.fault_messages.specs.Places.{Words, word}

-- of the nodes that these lines make all may be active, and the built-in driver
abbrev pub nodes_made : Words → ℕ
nodes_made lines = length (filter is_maker lines)

abbrev pub counted : List ℕ → ℕ → ℕ
counted line count = if is_maker line then count + 1 else count

abbrev pub room_for : ℕ → ℕ
room_for nodes = events_limit / (5 + 2 * nodes)

abbrev pub is_events : Which → Bool
is_events W.Events = true
is_events _ = false

unfoldable pub room_text : ℕ → List ℕ
room_text cycles = codes "; up to "
    ++ (decimal cycles ++ codes " cycles in all fit here, whatever is linked")

-- WHAT STILL FITS at a line, by those before it; nothing of `groups`, which sums up parts
abbrev pub room_said : Words → Which → Words → List ℕ
room_said words which before =
    if is_events which && not (bytes_eq (word words 0) (codes "groups"))
    then room_text (room_for (nodes_made before)) else []

abbrev pub room_part : Words → Which → Option (List ℕ) → Words → List ℕ
room_part words which None before = []
room_part words which (Some line) before = room_said words which before
