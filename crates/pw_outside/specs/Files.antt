-- Files: what is held under each name, and what a load and a store say of it. Source: this
-- project's own.
use Rattle.std.specs.Prelude.{◌≡◌, ℕ, ◌<◌, ◌≤◌, List, length, take, Option, Some, None, option_map, Result, Ok, Err, bytes_eq}
use Rattle.std.specs.Prelude.{if◌then◌else◌}
use Rattle.pw_outside.specs.declared.files.Loaded.{Loaded}
use Rattle.pw_outside.specs.declared.files.Loaded.TheVariants.{Whole, Absent, TooLong}
use Rattle.pw_outside.specs.declared.files.FileFail.{FileFail}
use Rattle.pw_outside.specs.declared.files.FileFail.TheVariants.{Failed, Memory}

-- the bytes under each name
abbrev pub Names : Type 0
Names = List ℕ → Option (List ℕ)

-- the same, where the object reports it
abbrev pub Held : Type 0
Held = Option Names

-- no name is held
abbrev pub nothing : Names
nothing name = None

-- the names that are reported; where nothing is reported, no name
abbrev pub names_in : Held → Names
names_in (Some names) = names
names_in None = nothing

-- the bytes are stored under the name, and all other names are as before
abbrev pub stored : List ℕ → List ℕ → Names → Names
stored name bytes names = λ other. if bytes_eq other name then Some bytes else names other

-- a load of a name, by what is stored under it and the limit
abbrev pub IsLoaded : Option (List ℕ) → ℕ → Result Loaded FileFail → Type 0
IsLoaded stands limit (Ok (Whole bytes)) = stands ≡ Some bytes
IsLoaded stands limit (Ok Absent) = stands ≡ None
IsLoaded stands limit (Ok TooLong) = (bytes : List ℕ) × (stands ≡ Some bytes)
    × (limit < length bytes)
IsLoaded stands limit (Err fail) = Unit {0}

-- what was loaded is within the limit, reported or not
abbrev pub IsWithin : ℕ → Result Loaded FileFail → Type 0
IsWithin limit (Ok (Whole bytes)) = length bytes ≤ limit
IsWithin limit (Ok Absent) = Unit {0}
IsWithin limit (Ok TooLong) = Unit {0}
IsWithin limit (Err fail) = Unit {0}

-- after a store: all bytes under the name, a prefix of them, or all as before; where nothing was
-- reported, nothing is
abbrev pub IsStored : List ℕ → List ℕ → Held → Held → Result (Unit {0}) FileFail
    → Type 0
IsStored name bytes old new (Ok done) = new ≡ option_map (stored name bytes) old
IsStored name bytes old new (Err Failed) = (kept : ℕ)
    × (new ≡ option_map (stored name (take kept bytes)) old)
IsStored name bytes old new (Err Memory) = new ≡ old

-- the same at every name
abbrev pub SameNames : Names → Names → Type 0
SameNames old new = (name : List ℕ) → new name ≡ old name

-- the same at every other name
abbrev pub OthersSame : Names → Names → List ℕ → Type 0
OthersSame old new name = (other : List ℕ) → ¬ (other ≡ name) → new other ≡ old other
