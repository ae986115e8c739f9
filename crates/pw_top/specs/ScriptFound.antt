-- The bytes of the script that a run read: which commands read one, and after which statuses it may
-- not have been loaded. Source: this project's own.
use Rattle.std.specs.Prelude.{◌≡◌, ℕ, List, Option, Some, None, Result, Ok, Err, IsSome}
use Rattle.pw_outside.specs.Files.{Held, names_in}
use Rattle.run_results.specs.declared.status.Status.{Status}
use Rattle.run_results.specs.declared.status.Status.TheVariants as S
use Rattle.pw_top.specs.declared.usage.CommandLine.{CommandLine}
use Rattle.pw_top.specs.declared.usage.CommandLine.TheVariants as C

-- how a part of a command ends
abbrev pub end_of : {T : Type 0} → Result T Status → Status
end_of (Ok x) = S.Ok
end_of (Err status) = status

-- a status that a load at this place may end with
abbrev pub EndsAtLoad : ℕ → Status → Type 0
EndsAtLoad place (S.Absent at) = at ≡ place
EndsAtLoad place (S.ReadFault at) = at ≡ place
EndsAtLoad place (S.Limit at which) = at ≡ place
EndsAtLoad place S.Memory = Unit {0}
EndsAtLoad place _ = ⊥

-- bytes that were stored under a name, where that is reported
abbrev pub WasStored : Held → List ℕ → List ℕ → Type 0
WasStored held name bytes = IsSome held → names_in held name ≡ Some bytes

-- OF A SCRIPT under this name, by how the command ends: its bytes; or none, which is only so after a
-- status that their load may end with
abbrev pub IsScriptUnder : Held → List ℕ → Status → Option (List ℕ) → Type 0
IsScriptUnder held name status None = EndsAtLoad 0 status
IsScriptUnder held name status (Some bytes) = WasStored held name bytes

-- OF A COMMAND: `run`, `check` and `groups` read a script, and no other does
abbrev pub IsScriptBy : CommandLine → Held → Status → Option (List ℕ) → Type 0
IsScriptBy (C.Run c) held status script = IsScriptUnder held c.script status script
IsScriptBy (C.Check c) held status script = IsScriptUnder held c.script status script
IsScriptBy (C.Groups c) held status script = IsScriptUnder held c.script status script
IsScriptBy command held status script = script ≡ None

-- of words; those that are no command line read none
abbrev pub IsScriptOf : Result CommandLine ℕ → Held → Status → Option (List ℕ) → Type 0
IsScriptOf (Ok command) held status script = IsScriptBy command held status script
IsScriptOf (Err word) held status script = script ≡ None
