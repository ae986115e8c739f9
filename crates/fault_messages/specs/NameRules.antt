-- The forms of names and ends, and what they have to be. Source: the forms are this project's own.
use Rattle.std.specs.Prelude.{ℕ, ◌==◌, ◌||◌, ◌&&◌, not, Bool, List, [], ◌∷◌, take, drop, length, nat_lt, codes, bytes_eq, if◌then◌else◌}
use Rattle.std.specs.List.{position_or_len}
use Rattle.graph_script.specs.Arguments.{is_node_name, is_dot}
use Rattle.fault_messages.specs.Places.{word}

-- a line with two ends
abbrev pub is_pair : List (List ℕ) → Bool
is_pair ws = bytes_eq (word ws 0) (codes "link") || bytes_eq (word ws 0) (codes "unlink")

-- an end: a name, one dot and a port; where its first dot is, and what is before and after it
abbrev pub dot_place : List ℕ → ℕ
dot_place w = position_or_len is_dot w

abbrev pub end_name : List ℕ → List ℕ
end_name w = take (dot_place w) w

abbrev pub behind_first : List ℕ → List ℕ
behind_first [] = []
behind_first (dot ∷ rest) = rest

abbrev pub end_port : List ℕ → List ℕ
end_port w = behind_first (drop (dot_place w) w)

abbrev pub has_dot : List ℕ → Bool
has_dot w = nat_lt (dot_place w) (length w)

abbrev pub is_end : List ℕ → Bool
is_end w = has_dot w && (not (has_dot (end_port w)) && is_node_name (end_name w))

-- what an end has to be: of one with one dot the name is at fault
abbrev pub has_one_dot : List ℕ → Bool
has_one_dot w = has_dot w && not (has_dot (end_port w))

abbrev pub end_rule : List ℕ → List ℕ
end_rule w =
    if has_one_dot w
    then codes "the name is a lower-case letter and up to 30 of a to z, 0 to 9 and _"
    else codes "an end is NODE.PORT"
