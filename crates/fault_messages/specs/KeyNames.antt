-- Names of the keys of formats. Source: spa/param/format.h; the words are this project's.
use Rattle.std.specs.Prelude.{ℕ, ◌==◌, List, [], ◌++◌, codes, decimal, Option, Some, None, if◌then◌else◌}

unfoldable pub key_name : ℕ → Option (List ℕ)
key_name key =
    if key == 1 then Some (codes "media type")
    else (if key == 2 then Some (codes "media subtype")
    else (if key == 65537 then Some (codes "sample format")
    else (if key == 65538 then Some (codes "flags")
    else (if key == 65539 then Some (codes "rate")
    else (if key == 65540 then Some (codes "channels")
    else (if key == 65541 then Some (codes "position") else None))))))

-- after the number of a key, which has its name only in a format
abbrev pub name_part : Option (List ℕ) → List ℕ
name_part None = []
name_part (Some name) = codes " (a format's " ++ (name ++ codes ")")

abbrev pub key_part : ℕ → List ℕ
key_part key = name_part (key_name key)

-- what the values under a key are called
abbrev pub common_name : Option (List ℕ) → List ℕ
common_name None = codes "value"
common_name (Some name) = name

-- a key under which two formats have nothing in common
unfoldable pub clash_said : ℕ → List ℕ
clash_said key = codes "no common "
    ++ (common_name (key_name key) ++ (codes " (key " ++ (decimal key ++ codes ")")))

-- a key that an object does not have; its name only in a format
abbrev pub named_key : Option (List ℕ) → ℕ → List ℕ
named_key None key = codes "key " ++ decimal key
named_key (Some name) key = name ++ (codes " (key " ++ (decimal key ++ codes ")"))
