-- How a node is named that only its number is known of: in quotes, and as a trace has it. Source:
-- this project's own; the name of node n is at place n of the script's names, and the built-in
-- driver is 63.
use Rattle.std.specs.Prelude.{ℕ, ◌==◌, List, ◌++◌, codes, decimal, slice_get, Option, Some, None, if◌then◌else◌}
use Rattle.pw_lists.specs.Limits.{dummy_node}
use Rattle.shown_words.specs.Escaping.{escaped}
use Rattle.fault_messages.specs.Places.{Words, quoted}

-- by its name, or by its number where it has none: in quotes, and without
abbrev pub name_said : Option (List ℕ) → ℕ → List ℕ
name_said None n = codes "node " ++ decimal n
name_said (Some name) n = quoted name

abbrev pub word_said : Option (List ℕ) → ℕ → List ℕ
word_said None n = codes "node " ++ decimal n
word_said (Some name) n = escaped name

-- THE NODE of this number, by the names of the script's nodes
unfoldable pub node_text : Words → ℕ → List ℕ
node_text names n =
    if n == dummy_node then quoted (codes "dummy") else name_said (slice_get names n) n

unfoldable pub node_word : Words → ℕ → List ℕ
node_word names n =
    if n == dummy_node then codes "dummy" else word_said (slice_get names n) n
