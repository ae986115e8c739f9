-- The event that the words of a line name, if they name one. Source: the form is this project's
-- own.
use Rattle.std.specs.Prelude.{ℕ, ◌+◌, ◌^◌, List, [], ◌∷◌, Option, Some, None, option_map, position, bytes_eq, codes, nat_lt}
use Rattle.std.specs.Prelude.{if◌then◌else◌}
use Rattle.std.specs.Option.{option_map_or}
use Rattle.pw_graph.specs.declared.ids.TheConstants.{DUMMY}
use Rattle.pw_graph.specs.declared.event.Event.{Event}
use Rattle.pw_graph.specs.declared.event.Event.TheVariants.{Begin, Start, Finish, Tick, End}

-- the node that a word names
abbrev pub node_said : List (List ℕ) → List ℕ → Option ℕ
node_said names word = if bytes_eq word (codes "dummy") then Some DUMMY
    else position (bytes_eq word) names

-- the node that the words name, if they are one word
abbrev pub one_node_said : List (List ℕ) → List (List ℕ) → Option ℕ
one_node_said names [] = None
one_node_said names (word ∷ []) = node_said names word
one_node_said names (word ∷ (next ∷ rest)) = None

-- a set with the nodes that the words name: bit n is node n
abbrev pub late_said : List (List ℕ) → List (List ℕ) → ℕ → Option ℕ
late_said names [] late = Some late
late_said names (word ∷ words) late =
    option_map_or (λ n. if nat_lt (late + 2 ^ n) (2 ^ 64) then late_said names words (late + 2 ^ n)
    else None)
    (node_said names word) None

-- an event that no word follows
abbrev pub alone : Event → List (List ℕ) → Option Event
alone event [] = Some event
alone event (word ∷ words) = None

-- the event of a first word, a cycle and the words after that
abbrev pub event_said : List (List ℕ) → List ℕ → ℕ → List (List ℕ) → Option Event
event_said names first cycle words =
    if bytes_eq first (codes "begin") then alone (Begin cycle) words
    else if bytes_eq first (codes "end") then alone (End cycle) words
    else if bytes_eq first (codes "start") then option_map (Start cycle) (one_node_said names words)
    else if bytes_eq first (codes "finish")
    then option_map (Finish cycle) (one_node_said names words)
    else if bytes_eq first (codes "tick") then option_map (Tick cycle) (late_said names words 0)
    else None
