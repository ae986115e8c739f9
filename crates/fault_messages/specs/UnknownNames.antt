-- A name that no node has yet, in words: of two ends the one at fault, by the lines before. Source:
-- this project's own.
use Rattle.std.specs.Prelude.{ℕ, List, ◌++◌, codes, if◌then◌else◌}
use Rattle.fault_messages.specs.Makers.{is_made}
use Rattle.fault_messages.specs.NameRules.{is_pair, end_name}
use Rattle.fault_messages.specs.Places.{word, quoted}

-- of two ends the first is looked at first
abbrev pub unknown_end : List (List ℕ) → List (List ℕ) → List ℕ
unknown_end ws before = if is_made (end_name (word ws 1)) before then word ws 2 else word ws 1

-- of an end, and of a name
unfoldable pub no_node_of : List ℕ → List ℕ
no_node_of end = codes "no line before this one makes the node of " ++ quoted end

unfoldable pub no_node_called : List ℕ → List ℕ
no_node_called name = codes "no line before this one makes a node called " ++ quoted name

-- WHICH NAME no line before gives to a node
abbrev pub unknown_name : List (List ℕ) → List (List ℕ) → List ℕ
unknown_name ws before =
    if is_pair ws then no_node_of (unknown_end ws before) else no_node_called (word ws 1)
